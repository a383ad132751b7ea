-- Laws of the channels and the state that the numbers of a pattern stand for.
use mathlib.Core.Path.{◌≡◌, refl, sym, ◌∙◌, ap, subst}
use mathlib.Core.Logic.{⊎_elim}
use mathlib.Core.List.Memᴰ
use mathlib.Core.List.{List, [], ◌∷◌, Memᴰ}
use mathlib.Core.Bool.{Bool, true, false, cond}
use Prim.Native.Nat.{ℕ, suc, ◌+◌, ◌-◌, ◌<◌, ◌≤◌}
use native.Mathlib.Omega.{arith}
use lib.ListN.{length, get_or, take, drop, get_or-replicate, get_or-eq_default, length-take}
use lib.Seq.{get_or-take, get_or-drop}
use borrow.Author.Tests.{eq-eqb, ne_eqb, lt-ltb, le-ltb}
use Rattle.lists.proofs.Cases.{bool_cases, lt_or_ge}
use Rattle.format.specs.declared.Transistor.{Transistor}
use Rattle.format.specs.Circuit.{Circuit, no_transistor}
use Rattle.rules.specs.State.{State, value_at, change_at, node_numbers}
use Rattle.rules.specs.Label.{Labels, some, only}
use Rattle.rules.specs.Kept.{Channel, keeps, after_kept, kept_from, kept}
use Rattle.rules.proofs.State.{Numbered, Shaped}
use Rattle.rules.proofs.Forest.{numbered}
use Rattle.rules.proofs.Local.{touches}
use Rattle.plain.specs.Leaf.{kept_by, leaf_state}
use Rattle.plain.proofs.Arms.{by_ext}
use Rattle.descent.specs.Settle.{is_of}

module _ (flag : ℕ → Bool) (i : ℕ) (t : Transistor) (ts : List Transistor) where
  -- a transistor with a flag is a channel
  pub by_take : flag i ≡ true → kept_by flag i (t ∷ ts) ≡ numbered i t ∷ kept_by flag (suc i) ts
  unfolding kept_by
  by_take e = rw e

  -- one without is none
  pub by_leave : flag i ≡ false → kept_by flag i (t ∷ ts) ≡ kept_by flag (suc i) ts
  unfolding kept_by
  by_leave e = rw e

-- a channel's flag is up, and its transistor stands at its number
pub record Flagged (flag : ℕ → Bool) (i : ℕ) (ts : List Transistor) (k : Channel) : Type 0 where
  pub up : flag k.number ≡ true
  pub least : i ≤ k.number
  pub most : k.number < i + length ts
  pub is : k.transistor ≡ get_or ts (k.number - i) no_transistor

-- what is one place further in a list
later_at : (t : Transistor) (ts : List Transistor) (i m : ℕ) → suc i ≤ m → get_or ts (m - suc i) no_transistor ≡ get_or (t ∷ ts) (m - i) no_transistor
later_at t ts i m h = let e : m - i ≡ suc (m - suc i) = omega arith in rw e

pub by_flagged : (flag : ℕ → Bool) (i : ℕ) (ts : List Transistor) (k : Channel) → Memᴰ k (kept_by flag i ts) → Flagged flag i ts k
unfolding kept_by
by_flagged flag i [] k m = absurd (Memᴰ.not-nil m)
by_flagged flag i (t ∷ ts) k m = by (λ r. wider (by_flagged flag (suc i) ts k r)) (flag i) refl m
  where
    wider : Flagged flag (suc i) ts k → Flagged flag i (t ∷ ts) k
    wider r = record { up = r.up; least = omega (arith, r.least); most = omega (arith, r.most); is = r.is ∙ later_at t ts i k.number r.least }

    first : flag i ≡ true → k ≡ numbered i t → Flagged flag i (t ∷ ts) k
    first e q =
        let n : k.number ≡ i = ap (λ (j : Channel). j.number) q in
        let z : k.number - i ≡ 0 = omega arith in
        record { up = ap flag n ∙ e; least = omega arith; most = omega arith; is = ap (λ (j : Channel). j.transistor) q ∙ sym (ap (λ (j : ℕ). get_or (t ∷ ts) j no_transistor) z) }

    by : (Memᴰ k (kept_by flag (suc i) ts) → Flagged flag i (t ∷ ts) k) → (b : Bool) → flag i ≡ b
        → Memᴰ k (cond b (numbered i t ∷ kept_by flag (suc i) ts) (kept_by flag (suc i) ts)) → Flagged flag i (t ∷ ts) k
    by below true e at = ⊎_elim (λ (q : k ≡ numbered i t). first e q) below (Memᴰ.cases_cons at)
    by below false e at = below at

-- flags that agree at the transistors that touch a set give the same channels there
pub by_only : (P : ℕ → Bool) (f g : ℕ → Bool) (i : ℕ) (ts : List Transistor)
    → ((j : ℕ) → i ≤ j → j < i + length ts → touches P (numbered j (get_or ts (j - i) no_transistor)) ≡ true → f j ≡ g j) → only (touches P) (kept_by f i ts) ≡ only (touches P) (kept_by g i ts)
unfolding kept_by only
by_only P f g i [] h = refl
by_only P f g i (t ∷ ts) h =
    let here : i - i ≡ 0 = omega arith in
    let rest : only (touches P) (kept_by f (suc i) ts) ≡ only (touches P) (kept_by g (suc i) ts) =
    by_only P f g (suc i) ts (λ j l m e. h j (omega arith) (omega arith) (subst (λ (u : Transistor). touches P (numbered j u) ≡ true) (later_at t ts i j l) e)) in
    ⊎_elim
    (λ (e : touches P (numbered i t) ≡ true).
    ap (λ (b : Bool). only (touches P) (cond b (numbered i t ∷ kept_by f (suc i) ts) (kept_by f (suc i) ts))) (h i (omega arith) (omega arith) (rw here e)) ∙ both (g i) rest)
    (λ (e : touches P (numbered i t) ≡ false). leave (f i) (kept_by f (suc i) ts) e ∙ rest ∙ sym (leave (g i) (kept_by g (suc i) ts) e))
    (bool_cases (touches P (numbered i t)))
  where
    both : (b : Bool) → only (touches P) (kept_by f (suc i) ts) ≡ only (touches P) (kept_by g (suc i) ts)
        → only (touches P) (cond b (numbered i t ∷ kept_by f (suc i) ts) (kept_by f (suc i) ts)) ≡ only (touches P) (cond b (numbered i t ∷ kept_by g (suc i) ts) (kept_by g (suc i) ts))
    both true r = rw r
    both false r = r

    leave : (b : Bool) (ks : List Channel) → touches P (numbered i t) ≡ false → only (touches P) (cond b (numbered i t ∷ ks) ks) ≡ only (touches P) ks
    leave true ks e = rw e
    leave false ks e = refl

module _ (c : Circuit) (s : State) where
  -- the number of a transistor before the first is none of the channels'
  of_early : (ts : List Transistor) (ls : Labels) (i j : ℕ) → j < i → is_of (kept_from c s ls i ts) j ≡ false
  unfolding kept_from some
  of_early [] ls i j h = refl
  of_early (t ∷ ts) ls i j h = by (keeps c s ls t) (of_early ts (after_kept c s ls t) (suc i) j (omega arith))
    where
      by : (b : Bool) → is_of (kept_from c s (after_kept c s ls t) (suc i) ts) j ≡ false
          → is_of (cond b (numbered i t ∷ kept_from c s (after_kept c s ls t) (suc i) ts) (kept_from c s (after_kept c s ls t) (suc i) ts)) j ≡ false
      by true r = rw (ne_eqb i j (λ q. omega arith)) r
      by false r = r

  -- the kept transistors are those whose numbers are the kept channels'
  kept_flags : (ts : List Transistor) (ls : Labels) (i : ℕ) → kept_from c s ls i ts ≡ kept_by (is_of (kept_from c s ls i ts)) i ts
  unfolding kept_from kept_by some
  kept_flags [] ls i = refl
  kept_flags (t ∷ ts) ls i =
      by (keeps c s ls t) (kept_from c s (after_kept c s ls t) (suc i) ts) (kept_flags ts (after_kept c s ls t) (suc i)) (of_early ts (after_kept c s ls t) (suc i) i (omega arith))
    where
      by : (b : Bool) (rest : List Channel) → rest ≡ kept_by (is_of rest) (suc i) ts → is_of rest i ≡ false
          → cond b (numbered i t ∷ rest) rest ≡ kept_by (is_of (cond b (numbered i t ∷ rest) rest)) i (t ∷ ts)
      by true rest r o =
          rw (eq-eqb i i refl)
          (ap {B = List Channel} (λ ks. numbered i t ∷ ks) (r ∙ by_ext (is_of rest) (is_of (numbered i t ∷ rest)) (suc i) ts (λ j l m. sym (rw (ne_eqb i j (λ q. omega arith))))))
      by false rest r o = rw o r

  pub kept_by_lem : kept c s ≡ kept_by (is_of (kept c s)) 0 c.transistors
  unfolding kept
  kept_by_lem = kept_flags c.transistors (node_numbers c) 0

-- a node's value in the state of some numbers
pub leaf_value : (c : Circuit) (q : ℕ) (numbers : List ℕ) (n : ℕ) → Numbered c n → value_at (leaf_state c q numbers) n ≡ get_or numbers n 0
leaf_value c q numbers n h =
    let e : 2 + (n - 2) ≡ n = omega (arith, h.least) in
    rw (le-ltb n 2 h.least)
    (get_or-take (length c.nodes) (drop 2 numbers) (n - 2) 0 (omega (arith, h.least, h.most)) ∙ get_or-drop 2 numbers (n - 2) 0 ∙ ap (λ (i : ℕ). get_or numbers i 0) e)

-- its pending change there
pub leaf_change_lem : (c : Circuit) (q : ℕ) (numbers : List ℕ) (n : ℕ) → Numbered c n → change_at (leaf_state c q numbers) n ≡ q
leaf_change_lem c q numbers n h = rw (le-ltb n 2 h.least) (get_or-replicate (length c.nodes) (n - 2) q _ (omega (arith, h.least, h.most)))

-- a state whose values the numbers hold has them everywhere
pub leaf_values : (c : Circuit) (q : ℕ) (numbers : List ℕ) (s : State) → Shaped c s → ((m : ℕ) → Numbered c m → get_or numbers m 0 ≡ value_at s m)
    → (m : ℕ) → value_at s m ≡ value_at (leaf_state c q numbers) m
leaf_values c q numbers s sh h m =
    ⊎_elim
    (λ (rail : m < 2). rw (lt-ltb m 2 rail))
    (λ (l : 2 ≤ m).
    ⊎_elim
    (λ (g : m < 2 + length c.nodes). let i : Numbered c m = record { least = l; most = g } in sym (h m i) ∙ sym (leaf_value c q numbers m i))
    (λ (g : 2 + length c.nodes ≤ m).
    rw (le-ltb m 2 l)
    (get_or-eq_default s.values 0 (omega (arith, sh.values_long))
    ∙ sym (get_or-eq_default (take (length c.nodes) (drop 2 numbers)) 0 (simp length-take (omega arith)))))
    (lt_or_ge m (2 + length c.nodes)))
    (lt_or_ge m 2)
