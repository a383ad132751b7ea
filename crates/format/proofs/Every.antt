-- Laws of `every`.
use mathlib.Core.Path.{◌≡◌, refl, sym, ◌∙◌, ap, ap₂}
use mathlib.Core.Logic.{⊎_elim}
use mathlib.Core.Bool.{Bool, true, false, ◌&&◌, and-true, and_assoc}
use mathlib.Core.List.{List, [], ◌∷◌, ◌++◌, map}
use Prim.Native.Nat.{ℕ, zero, suc, ◌+◌, ◌≤◌, ◌<◌}
use native.Mathlib.Nat.{le_of_suc-le-suc}
use native.Mathlib.Numerals.{add-one}
use native.Mathlib.Omega.{arith}
use lib.ListN.{length, get_or, take, length-take}
use lib.Seq.{take-suc, get_or-take}
use Rattle.lists.proofs.Cases.{bool_cases, and_left, and_right, and_both, true_false}
use Rattle.format.specs.Circuit.{every}

module _ {A : Type 0} (test : A → Bool) where
  -- where every element passes, the one at a place does
  pub every_at : (xs : List A) → every test xs ≡ true → (d : A) (i : ℕ) → i < length xs → test (get_or xs i d) ≡ true
  unfolding every
  every_at [] e d i h = absurd (omega arith)
  every_at (x ∷ xs) e d zero h = and_left (test x) (every test xs) e
  every_at (x ∷ xs) e d (suc i) h = every_at xs (and_right (test x) (every test xs) e) d i (le_of_suc-le-suc h)

  -- where the element at each place passes, every one does
  pub every_of : (xs : List A) (d : A) → ((i : ℕ) → i < length xs → test (get_or xs i d) ≡ true) → every test xs ≡ true
  unfolding every
  every_of [] d h = refl
  every_of (x ∷ xs) d h = and_both _ _ (h zero (omega arith)) (every_of xs d (λ i lt. h (suc i) (omega arith)))

  -- every element of two lists, one after the other
  pub every_append : (xs ys : List A) → every test (xs ++ ys) ≡ every test xs && every test ys
  unfolding every
  every_append [] ys = refl
  every_append (x ∷ xs) ys = ap (λ (b : Bool). test x && b) (every_append xs ys) ∙ sym (and_assoc (test x) (every test xs) (every test ys))

  every_one : (x : A) → every test (x ∷ []) ≡ test x
  unfolding every
  every_one x = and-true (test x)

-- the first elements, one after the other
module _ {A : Type 0} (test : A → Bool) (d : A) (xs : List A) where
  -- none looked at yet
  pub every_none : every test (take 0 xs) ≡ true
  unfolding every
  every_none = refl

  -- one more passes
  pub every_more : (i : ℕ) → i < length xs → every test (take i xs) ≡ true → test (get_or xs i d) ≡ true → every test (take (i + 1) xs) ≡ true
  every_more i h e t = rw (add-one, take-suc xs i d h, every_append, every_one) (and_both _ _ e t)

  -- one fails
  pub every_broken : (n i : ℕ) → i < n → i < length xs → test (get_or xs i d) ≡ false → false ≡ every test (take n xs)
  every_broken n i h g t =
      ⊎_elim
      (λ (a : every test (take n xs) ≡ true). true_false (test (get_or xs i d)) (rw (get_or-take n xs i d h) at (every_at test (take n xs) a d i (omega (arith, length-take n xs)))) t)
      (λ (a : every test (take n xs) ≡ false). sym a)
      (bool_cases (every test (take n xs)))

  -- all of them pass
  pub every_done : (n i : ℕ) → every test (take i xs) ≡ true → i ≤ n → n ≤ i → true ≡ every test (take n xs)
  every_done n i p h g =
      let e : i ≡ n = omega arith in
      rw (← e) (sym p)

-- every element of a list that a function made
pub every_map : {A B : Type 0} (test : B → Bool) (f : A → B) (xs : List A) → every test (map f xs) ≡ every (λ (x : A). test (f x)) xs
unfolding every
every_map test f [] = refl
every_map test f (x ∷ xs) = ap (λ (b : Bool). test (f x) && b) (every_map test f xs)

-- two tests that agree on each element
pub every_same : {A : Type 0} (f g : A → Bool) (d : A) (xs : List A) → ((i : ℕ) → i < length xs → f (get_or xs i d) ≡ g (get_or xs i d)) → every f xs ≡ every g xs
unfolding every
every_same f g d [] h = refl
every_same f g d (x ∷ xs) h = ap₂ ◌&&◌ (h zero (omega arith)) (every_same f g d xs (λ i lt. h (suc i) (omega arith)))
