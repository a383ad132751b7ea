-- The arms of a node, as a fold over the numbers that the cell lists for it.
use mathlib.Core.Path.{◌≡◌, refl, sym, ◌∙◌, ap}
use mathlib.Core.Bool.{Bool, true, false, not, ◌&&◌, ◌||◌, cond}
use mathlib.Core.Option.{Option}
use mathlib.Core.List.{List, [], ◌∷◌}
use Prim.Native.Nat.{ℕ, zero, suc, ◌+◌, ◌≤◌, ◌<◌}
use native.Mathlib.Nat.{le_refl, le_trans}
use native.Mathlib.Numerals.{add-one}
use native.Mathlib.Omega.{arith}
use lib.ListN.{length, get_or, drop}
use lib.Seq.{drop-cons}
use lib.Dec.{eqb}
use Rattle.format.specs.declared.Transistor.{Transistor}
use Rattle.format.specs.Circuit.{no_transistor}
use Rattle.rules.specs.Kept.{Channel}
use Rattle.rules.specs.Sum.{is_the, leads, over_arms}
use Rattle.net.specs.Net.{arms_from}
use Rattle.plain.specs.Leaf.{kept_by}

-- the numbers that pass a test, taken in one after the other
unfoldable pub fold_arms : {A : Type 0} → (ℕ → Bool) → (A → ℕ → A) → A → List ℕ → A
fold_arms goes add v [] = v
fold_arms goes add v (i ∷ is) = fold_arms goes add (cond (goes i) (add v i) v) is

-- the transistors that lead away from a node: kept, and not the one by which it was reached
abbrev pub goes_on : (ℕ → Bool) → Option ℕ → ℕ → Bool
goes_on flag from i = flag i && not (is_the from i)

module _ {A : Type 0} (goes : ℕ → Bool) (add : A → ℕ → A) where
  -- one number more
  pub fold_next : (is : List ℕ) (k : ℕ) (v : A) → k < length is
      → fold_arms goes add v (drop k is) ≡ fold_arms goes add (cond (goes (get_or is k 0)) (add v (get_or is k 0)) v) (drop (k + 1) is)
  unfolding fold_arms
  fold_next is k v h = rw (add-one, drop-cons is k 0 h)

  -- and at last the value
  pub fold_end : (is : List ℕ) (k : ℕ) (v : A) → length is ≤ k → fold_arms goes add v (drop k is) ≡ v
  unfolding fold_arms
  fold_end [] zero v h = refl
  fold_end [] (suc k) v h = refl
  fold_end (i ∷ is) zero v h = absurd (omega arith)
  fold_end (i ∷ is) (suc k) v h = fold_end is k v (omega arith)

  module _ (m : A → ℕ) (grows : (v : A) (i : ℕ) → m v ≤ m (add v i)) where
    -- what no number makes smaller is at the end no smaller
    pub fold_grows : (is : List ℕ) (v : A) → m v ≤ m (fold_arms goes add v is)
    unfolding fold_arms
    fold_grows [] v = le_refl (m v)
    fold_grows (i ∷ is) v = le_trans (by (goes i)) (fold_grows is (cond (goes i) (add v i) v))
      where
        by : (b : Bool) → m v ≤ m (cond b (add v i) v)
        by true = grows v i
        by false = le_refl (m v)

    -- so what one number makes of it is within the whole
    pub fold_part : (is : List ℕ) (k : ℕ) (v : A) → k < length is → goes (get_or is k 0) ≡ true → m (add v (get_or is k 0)) ≤ m (fold_arms goes add v (drop k is))
    fold_part is k v h e = rw (fold_next is k v h, e) (fold_grows (drop (k + 1) is) (add v (get_or is k 0)))

module _ {A : Type 0} (flag : ℕ → Bool) (from : Option ℕ) (n : ℕ) (add : A → Channel → A) (g : A → ℕ → A) where
  -- a channel that may stand in front
  over_cond : (b : Bool) (k : Channel) (ks : List Channel) (v : A)
      → over_arms (leads from n) add v (cond b (k ∷ ks) ks) ≡ over_arms (leads from n) add (cond (b && leads from n k) (add v k) v) ks
  unfolding over_arms
  over_cond true k ks v = refl
  over_cond false k ks v = refl

  fold_cond : (b : Bool) (i : ℕ) (is : List ℕ) (v : A)
      → fold_arms (goes_on flag from) g v (cond b (i ∷ is) is) ≡ fold_arms (goes_on flag from) g (cond (b && goes_on flag from i) (g v i) v) is
  unfolding fold_arms
  fold_cond true i is v = refl
  fold_cond false i is v = refl

  -- the order of three tests does not matter
  turned : (a b c : Bool) → a && (b && c) ≡ c && (a && b)
  turned true true true = refl
  turned true true false = refl
  turned true false true = refl
  turned true false false = refl
  turned false true true = refl
  turned false true false = refl
  turned false false true = refl
  turned false false false = refl

  -- what the kept channels add is what the listed numbers add
  pub over_fold : (i : ℕ) (ts : List Transistor)
      → ((j : ℕ) → j < length ts → (v : A) → add v (record { number = i + j; transistor = get_or ts j no_transistor }) ≡ g v (i + j))
      → (v : A) → over_arms (leads from n) add v (kept_by flag i ts) ≡ fold_arms (goes_on flag from) g v (arms_from n i ts)
  unfolding over_arms kept_by fold_arms arms_from
  over_fold i [] h v = refl
  over_fold i (t ∷ ts) h v =
      let k : Channel = record { number = i; transistor = t } in
      let at-end : Bool = eqb t.first n || eqb t.second n in
      let here : add v k ≡ g v i = first in
      over_cond (flag i) k (kept_by flag (suc i) ts) v
      ∙ over_fold (suc i) ts later (cond (flag i && leads from n k) (add v k) v)
      ∙ ap (λ (w : A). fold_arms (goes_on flag from) g w (arms_from n (suc i) ts)) (rw (turned (flag i) (not (is_the from i)) at-end, here))
      ∙ sym (fold_cond at-end i (arms_from n (suc i) ts) v)
    where
      first : add v (record { number = i; transistor = t }) ≡ g v i
      first =
          let e : i + 0 ≡ i = omega arith in
          rw e at (h 0 (omega arith) v)

      later : (j : ℕ) → j < length ts → (w : A) → add w (record { number = suc i + j; transistor = get_or ts j no_transistor }) ≡ g w (suc i + j)
      later j l w =
          let e : i + suc j ≡ suc i + j = omega arith in
          rw e at (h (suc j) (omega arith) w)
