-- Laws of `firsts`.
use Prim.Native.Nat.{ℕ, zero, suc, ◌<◌, ◌≤◌}
use mathlib.Core.Path.{◌≡◌, refl, ap}
use mathlib.Core.List.{List, [], ◌∷◌}
use native.Mathlib.Omega.{arith}
use lib.ListN.{length, get_or, take, get_or-eq_default}
use Rattle.cell.specs.Value.{firsts}

module _ {A : Type 0} (d : A) where
  pub length_firsts : (n : ℕ) (xs : List A) → length (firsts n d xs) ≡ n
  unfolding firsts
  length_firsts zero xs = refl
  length_firsts (suc n) [] = ap suc (length_firsts n [])
  length_firsts (suc n) (x ∷ xs) = ap suc (length_firsts n xs)

  firsts_none : (n i : ℕ) → get_or (firsts n d []) i d ≡ d
  unfolding firsts
  firsts_none zero i = refl
  firsts_none (suc n) zero = refl
  firsts_none (suc n) (suc i) = firsts_none n i

  pub firsts_at : (n : ℕ) (xs : List A) (i : ℕ) → i < n → get_or (firsts n d xs) i d ≡ get_or xs i d
  unfolding firsts
  firsts_at zero xs i h = absurd (omega arith)
  firsts_at (suc n) [] i h = firsts_none (suc n) i
  firsts_at (suc n) (x ∷ xs) zero h = refl
  firsts_at (suc n) (x ∷ xs) (suc i) h = firsts_at n xs i (omega arith)

  pub firsts_past : (n : ℕ) (xs : List A) (i : ℕ) → n ≤ i → get_or (firsts n d xs) i d ≡ d
  firsts_past n xs i h = get_or-eq_default (firsts n d xs) d {n = i} (omega (arith, length_firsts n xs))

  -- where the list is long enough they are its first n
  pub firsts_take : (n : ℕ) (xs : List A) → n ≤ length xs → firsts n d xs ≡ take n xs
  unfolding firsts
  firsts_take zero xs h = refl
  firsts_take (suc n) [] h = absurd (omega arith)
  firsts_take (suc n) (x ∷ xs) h = ap (λ (ys : List A). x ∷ ys) (firsts_take n xs (omega arith))
