-- Laws of writes: what a column reads after them, and which places they leave.
use mathlib.Core.Path.{◌≡◌, refl, ◌∙◌}
use mathlib.Core.List.{List, [], ◌∷◌}
use Prim.Native.Nat.{ℕ, zero, suc, ◌+◌, ◌≤◌, ◌<◌}
use native.Mathlib.Omega.{arith}
use lib.ListN.{length, get_or, set, drop, length-set}
use mathlib.Core.Logic.{⊎_elim}
use Rattle.lists.proofs.Cases.{lt_or_ge}
use lib.Seq.{get_or-set_same, get_or-set_other}
use Rattle.net.specs.Net.{at}
use Rattle.net.specs.Written.{OnlyAt, Write, puts, Put}

-- nothing written
pub only_none : (first past : ℕ) (net : List ℕ) → OnlyAt first past net net
only_none first past net = record { long = refl; below = λ i h. refl; above = λ i h. refl }

-- one part after another
pub only_then : {first past : ℕ} {a b c : List ℕ} → OnlyAt first past a b → OnlyAt first past b c → OnlyAt first past a c
only_then p q = record {
  long = q.long ∙ p.long;
  below = λ i h. q.below i h ∙ p.below i h;
  above = λ i h. q.above i h ∙ p.above i h;
}

-- within a wider range
pub only_wider : {first past : ℕ} {a b : List ℕ} (least most : ℕ) → least ≤ first → past ≤ most → OnlyAt first past a b → OnlyAt least most a b
only_wider least most h g p = record {
  long = p.long;
  below = λ i l. p.below i (omega arith);
  above = λ i l. p.above i (omega arith);
}

-- one write
pub only_set : (first past : ℕ) (net : List ℕ) (i v : ℕ) → first ≤ i → i < past → OnlyAt first past net (set net i v)
only_set first past net i v h g = record {
  long = length-set net i v;
  below = λ j l. get_or-set_other net i j v 0 (omega arith);
  above = λ j l. get_or-set_other net i j v 0 (omega arith);
}

-- no write is at place j
abbrev pub Away : ℕ → List Write → Type 0
Away j [] = Unit {0}
Away j (w ∷ ws) = (j ≡ w.0 → ⊥) × Away j ws

-- all writes are within a range
abbrev pub Inside : ℕ → ℕ → List Write → Type 0
Inside first past [] = Unit {0}
Inside first past (w ∷ ws) = ((first ≤ w.0) × (w.0 < past)) × Inside first past ws

pub length_puts : (net : List ℕ) (ws : List Write) → length (puts net ws) ≡ length net
length_puts net [] = refl
length_puts net (w ∷ ws) = length_puts (set net w.0 w.1) ws ∙ length-set net w.0 w.1

-- a place away from the writes
pub puts_away : (net : List ℕ) (ws : List Write) (j : ℕ) → Away j ws → at (puts net ws) j ≡ at net j
puts_away net [] j h = refl
puts_away net (w ∷ ws) j h = puts_away (set net w.0 w.1) ws j h.1 ∙ get_or-set_other net w.0 j w.1 0 h.0

-- the place of write k, which no later write is at
pub puts_hit : (net : List ℕ) (ws : List Write) (k : ℕ) → k < length ws → (get_or ws k (0, 0)).0 < length net → Away (get_or ws k (0, 0)).0 (drop (suc k) ws) → at (puts net ws) (get_or ws k (0, 0)).0 ≡ (get_or ws k (0, 0)).1
puts_hit net [] k h g a = absurd (omega arith)
puts_hit net (w ∷ ws) zero h g a = puts_away (set net w.0 w.1) ws w.0 a ∙ get_or-set_same net w.0 w.1 0 g
puts_hit net (w ∷ ws) (suc k) h g a =
    let same : length (set net w.0 w.1) ≡ length net = length-set net w.0 w.1 in
    puts_hit (set net w.0 w.1) ws k (omega arith) (omega arith) a

pub puts_only : (first past : ℕ) (net : List ℕ) (ws : List Write) → Inside first past ws → OnlyAt first past net (puts net ws)
puts_only first past net [] h = only_none first past net
puts_only first past net (w ∷ ws) h = only_then (only_set first past net w.0 w.1 h.0.0 h.0.1) (puts_only first past (set net w.0 w.1) ws h.1)

-- The loop over the records of a kind: after k turns the first k stand in their places.
module _ {A : Type 0} (first past : ℕ) (read : List ℕ → ℕ → A) (d : A) (records : List A) where
  pub put_none : (net : List ℕ) → Put first past read d records 0 net net
  put_none net = record { rest = only_none first past net; each = λ i h. absurd (omega arith) }

  pub put_more : (k : ℕ) (before net next : List ℕ) → Put first past read d records k before net → OnlyAt first past net next → read next k ≡ get_or records k d → ((j : ℕ) → j < k → read next j ≡ read net j) → Put first past read d records (k + 1) before next
  put_more k before net next p o new old = record { rest = only_then p.rest o; each = λ i h. each i h }
    where
      each : (i : ℕ) → i < k + 1 → read next i ≡ get_or records i d
      each i h =
          ⊎_elim
          (λ (l : i < k). old i l ∙ p.each i l)
          (λ (l : k ≤ i). let e : i ≡ k = omega arith in rw e new)
          (lt_or_ge i k)
