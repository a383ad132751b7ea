-- The element at a place of a list, and the order of lists of numbers.
use Rattle.std.specs.Prelude.{ℕ, zero, suc, Bool, false, ◌&&◌, ◌||◌, List, [], ◌∷◌, ltb, eqb}
use Rattle.refusal.specs.declared.Refusal.TheVariants.{Question}
use Rattle.refusal.specs.Answer.{Answer, refused, answered}

-- the element at a place, counted from 0: 9 past the last
unfoldable pub listed_at : {A : Type 0} → List A → ℕ → Answer A
listed_at [] place = refused Question
listed_at (x ∷ xs) zero = answered x
listed_at (x ∷ xs) (suc place) = listed_at xs place

-- lexicographic order: the first place where two lists differ decides; where one ends before that, neither precedes the other
unfoldable pub precedes : List ℕ → List ℕ → Bool
precedes [] ys = false
precedes (x ∷ xs) [] = false
precedes (x ∷ xs) (y ∷ ys) = ltb x y || (eqb x y && precedes xs ys)
