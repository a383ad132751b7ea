-- Laws of a function applied to each element of a list.
use mathlib.Core.Path.{◌≡◌, refl, sym, ◌∙◌, ap, ap₂}
use mathlib.Core.List.{List, [], ◌∷◌, ◌++◌, map}
use Prim.Native.Nat.{ℕ, zero, suc, ◌-◌, ◌<◌}
use native.Mathlib.Nat.{le_of_suc-le-suc}
use native.Mathlib.Omega.{arith}
use lib.ListN.{length, get_or, take, replicate, length-map}
use Rattle.lists.specs.Padded.{padded}

module _ {A B : Type 0} (f : A → B) where
  -- in two lists, one after the other
  pub map_append : (xs ys : List A) → map f (xs ++ ys) ≡ map f xs ++ map f ys
  map_append [] ys = refl
  map_append (x ∷ xs) ys = ap {B = List B} (λ r. f x ∷ r) (map_append xs ys)

  -- in equal elements
  pub map_replicate : (n : ℕ) (d : A) → map f (replicate n d) ≡ replicate n (f d)
  map_replicate zero d = refl
  map_replicate (suc n) d = ap {B = List B} (λ r. f d ∷ r) (map_replicate n d)

  -- in the first elements
  pub map_take : (n : ℕ) (xs : List A) → map f (take n xs) ≡ take n (map f xs)
  map_take zero xs = refl
  map_take (suc n) [] = refl
  map_take (suc n) (x ∷ xs) = ap {B = List B} (λ r. f x ∷ r) (map_take n xs)

  -- in a padded column
  pub map_padded : (m : ℕ) (d : A) (xs : List A) → map f (padded m d xs) ≡ padded m (f d) (map f xs)
  map_padded m d xs =
      map_append xs (replicate (m - length xs) d)
      ∙ ap (λ (r : List B). map f xs ++ r) (map_replicate (m - length xs) d ∙ ap (λ (n : ℕ). replicate (m - n) (f d)) (sym (length-map xs f)))

-- two functions that agree on each element
pub map_same : {A B : Type 0} (f g : A → B) (d : A) (xs : List A) → ((i : ℕ) → i < length xs → f (get_or xs i d) ≡ g (get_or xs i d)) → map f xs ≡ map g xs
map_same f g d [] h = refl
map_same f g d (x ∷ xs) h = ap₂ ◌∷◌ (h zero (omega arith)) (map_same f g d xs (λ i lt. h (suc i) (omega arith)))

-- the element at a place of a list that a function made, whatever stands past the end
pub map_at : {A B : Type 0} (f : A → B) (xs : List A) (d : A) (e : B) (i : ℕ) → i < length xs → get_or (map f xs) i e ≡ f (get_or xs i d)
map_at f [] d e i h = absurd (omega arith)
map_at f (x ∷ xs) d e zero h = refl
map_at f (x ∷ xs) d e (suc i) h = map_at f xs d e i (le_of_suc-le-suc h)
