-- Clearing columns, and starting them anew.
use mathlib.Core.Path.{◌≡◌, refl, sym, ◌∙◌, ap}
use mathlib.Core.Logic.{⊎_elim}
use mathlib.Core.List.{List, ◌++◌, map}
use mathlib.Core.Bool.{true, false}
use Prim.Native.Nat.{ℕ, ◌+◌, ◌-◌, ◌<◌, ◌≤◌}
use native.Mathlib.Omega.{arith}
use lib.ListN.{length, get_or, set, take, drop, replicate, length-append, length-take, length-drop, length-replicate, length-set, length-map, get_or-append}
use Rattle.std.proofs.Common.{Ok, Err}
use lib.Seq.{get_or-set_same, get_or-set_other, get_or-take, get_or-append-add, length-take-le, ext_get_or}
use Rattle.refusal.specs.declared.Refusal.TheVariants.{Buffer}
use Rattle.refusal.specs.Answer.{reply_of}
use Rattle.lists.specs.Padded.{padded}
use Rattle.lists.proofs.Cases.{lt_or_ge}
use Rattle.lists.proofs.Padded.{replicate_read}
use Rattle.lists.proofs.Map.{map_take}
use Rattle.diagram.specs.Table.{Entry, Table}
use Rattle.diagram.specs.Store.{fresh}
use Rattle.diagram.specs.Call.{columns, lengths_legal, fresh_call, columns_after}
use Rattle.diagram.specs.Held.{entries, letter_of, low_of, high_of, HeldIn}
use Rattle.diagram.proofs.Columns.{held_columns}
use Rattle.diagram.proofs.Held.{entries_high, entries_letter, entries_low}
use Rattle.table.specs.Holds.{Holds, Kept, zero_from}

-- a column cleared from a place on as far as n
pub record Clearing (from n : ℕ) (old new : List ℕ) : Type 0 where
  pub long : length new ≡ length old
  pub passed : from ≤ n
  pub kept : (i : ℕ) → i < from → get_or new i 0 ≡ get_or old i 0
  pub zeros : (i : ℕ) → from ≤ i → i < n → get_or new i 0 ≡ 0

pub clearing_none : (from : ℕ) (old : List ℕ) → Clearing from from old old
clearing_none from old = record { long = refl; passed = omega arith; kept = λ i g. refl; zeros = λ i g k. absurd (omega arith) }

-- a piece more, wiped
pub clearing_piece : {from n to : ℕ} {old new piece : List ℕ} → Clearing from n old new → n ≤ to → to ≤ length new → piece ≡ replicate (length (take (to - n) (drop n new))) 0
    → Clearing from to old (take n new ++ (piece ++ drop (to - n) (drop n new)))
clearing_piece {from} {n} {to} {old} {new} {piece} c on fits e =
    let past : from ≤ n = c.passed in
    let rest : List ℕ = drop (to - n) (drop n new) in
    let front : length (take n new) ≡ n = length-take-le n new (omega arith) in
    let left : length (drop n new) ≡ length new - n = length-drop n new in
    let wide : length piece ≡ to - n = ap length e ∙ length-replicate (length (take (to - n) (drop n new))) 0 ∙ length-take-le (to - n) (drop n new) (omega arith) in
    let early : (i : ℕ) → i < n → get_or (take n new ++ (piece ++ rest)) i 0 ≡ get_or new i 0 = λ i k. get_or-append (take n new) (piece ++ rest) 0 i (omega arith) ∙ get_or-take n new i 0 k in
    record {
      long = simp (length-append, front, wide, length-drop) (omega (arith, c.long));
      passed = omega arith;
      kept = λ i g. early i (omega arith) ∙ c.kept i g;
      zeros = λ i g k.
          ⊎_elim
          (λ (s : i < n). early i s ∙ c.zeros i g s)
          (λ (s : n ≤ i).
          let place : i ≡ length (take n new) + (i - n) = omega arith in
          ap (λ (j : ℕ). get_or (take n new ++ (piece ++ rest)) j 0) place
          ∙ get_or-append-add (take n new) (piece ++ rest) (i - n) 0
          ∙ get_or-append piece rest 0 (i - n) (omega arith)
          ∙ ap (λ (l : List ℕ). get_or l (i - n) 0) e
          ∙ replicate_read (length (take (to - n) (drop n new))) (i - n) 0)
          (lt_or_ge i n);
    }

zero_from_length : (n : ℕ) (l : List ℕ) → length (zero_from n l) ≡ length l
zero_from_length n l = simp (length-append, length-take, length-replicate) (omega arith)

-- cleared to the end
pub clearing_all : {from n : ℕ} {old new : List ℕ} → Clearing from n old new → length new ≤ n → new ≡ zero_from from old
clearing_all {from} {n} {old} {new} c end =
    ext_get_or 0 new (zero_from from old) (c.long ∙ sym (zero_from_length from old)) (λ i l.
    let there : length new ≡ length old = c.long in
    ⊎_elim
    (λ (g : i < from).
    c.kept i g
    ∙ sym (get_or-take from old i 0 g)
    ∙ sym (get_or-append (take from old) (replicate (length old - from) 0) 0 i (omega (arith, length-take from old))))
    (λ (g : from ≤ i).
    let front : length (take from old) ≡ from = length-take-le from old (omega arith) in
    let place : i ≡ length (take from old) + (i - from) = omega arith in
    c.zeros i g (omega arith)
    ∙ sym (ap (λ (j : ℕ). get_or (zero_from from old) j 0) place ∙ get_or-append-add (take from old) (replicate (length old - from) 0) (i - from) 0 ∙ replicate_read (length old - from) (i - from) 0))
    (lt_or_ge i from))

-- columns in which a table still stands, cleared from its end on, are its columns
module _ {l w h : List ℕ} {size : ℕ} {t : Table} (k : Kept l w h size t) where
  p : length w ≡ length l
  p = omega (arith, k.letter_long, k.low_long)

  q : length h ≡ length l
  q = omega (arith, k.letter_long, k.high_long)

  column : (f : Entry → ℕ) (v : List ℕ) → map f (entries l w h) ≡ v → length v ≡ size → zero_from (length t) v ≡ padded size 0 (map f t)
  column f v e long =
      let front : take (length t) v ≡ map f t = ap (take (length t)) (sym e) ∙ sym (map_take f (length t) (entries l w h)) ∙ ap (map f) k.table in
      let n : length (map f t) ≡ length t = length-map t f in
      rw (front, long, n)

  pub kept_cleared : HeldIn size t (zero_from (length t) l) (zero_from (length t) w) (zero_from (length t) h)
  kept_cleared = record {
    letter_is = column letter_of l (entries_letter l w h p q) k.letter_long;
    low_is = column low_of w (entries_low l w h p q) k.low_long;
    high_is = column high_of h (entries_high l w h p q) k.high_long;
  }

-- after a refusal: the columns cleared from the used count on are those that held the table
pub kept_restored : {l w h l₀ w₀ h₀ ix : List ℕ} {t : Table} {used : ℕ} → Holds l₀ w₀ h₀ ix t used → Kept l w h (length l₀) t
    → columns (zero_from used l) (zero_from used w) (zero_from used h) ≡ columns l₀ w₀ h₀
kept_restored {l₀ = l₀} {t = t} s k = rw s.long (held_columns (length l₀) t (kept_cleared k) ∙ sym (held_columns (length l₀) t s.is))

-- the fresh table, refused and answered
module _ (l w h : List ℕ) where
  pub fresh_refused : lengths_legal (columns l w h) ≡ false
      → (Err Buffer ≡ reply_of (fresh_call (columns l w h))) × (columns l w h ≡ columns_after (columns l w h) (fresh_call (columns l w h)))
  unfolding fresh_call columns_after
  fresh_refused e = rw e (refl, refl)

  pub fresh_done : lengths_legal (columns l w h) ≡ true → (l' w' h' : List ℕ) → HeldIn (length l) fresh l' w' h'
      → (Ok tt ≡ reply_of (fresh_call (columns l w h))) × (columns l' w' h' ≡ columns_after (columns l w h) (fresh_call (columns l w h)))
  unfolding fresh_call columns_after
  fresh_done e l' w' h' g = rw e (refl, held_columns (length l) fresh g)
