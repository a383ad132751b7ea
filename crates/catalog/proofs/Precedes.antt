-- Laws of the order of lists of numbers, and of a list in which each element stands before those behind it.
use mathlib.Core.Path.{◌≡◌, refl}
use mathlib.Core.Logic.{⊎_elim}
use mathlib.Core.Bool.{Bool, true, false, ◌&&◌}
use mathlib.Core.List.{List, [], ◌∷◌, ◌++◌}
use Prim.Native.Nat.{ℕ, zero, suc, ◌<◌}
use native.Mathlib.Omega.{arith}
use lib.Dec.{ltb, eqb}
use lib.ListN.{length, get_or}
use borrow.Author.Tests.{le-ltb, eq-eqb}
use Rattle.lists.proofs.Cases.{and_left, and_right, and_both, or_cases, or_left, or_right, true_false}
use Rattle.format.specs.Circuit.{every}
use Rattle.format.proofs.Every.{every_at}
use Rattle.catalog.specs.Lists.{precedes}

-- no list stands before itself
pub precedes_not : (xs : List ℕ) → precedes xs xs ≡ false
unfolding precedes
precedes_not [] = refl
precedes_not (x ∷ xs) = rw (le-ltb x x (omega arith), eq-eqb x x refl) (precedes_not xs)

-- what was decided stays so, whatever stands behind
pub precedes_more : (xs ys ms ns : List ℕ) → precedes xs ys ≡ true → precedes (xs ++ ms) (ys ++ ns) ≡ true
unfolding precedes
precedes_more [] ys ms ns e = true_false false e refl
precedes_more (x ∷ xs) [] ms ns e = true_false false e refl
precedes_more (x ∷ xs) (y ∷ ys) ms ns e =
    let rest = precedes (xs ++ ms) (ys ++ ns) in
    ⊎_elim
    (λ (l : ltb x y ≡ true). or_left (ltb x y) (eqb x y && rest) l)
    (λ (r : eqb x y && precedes xs ys ≡ true).
    or_right (ltb x y) (eqb x y && rest)
    (and_both (eqb x y) rest (and_left (eqb x y) (precedes xs ys) r) (precedes_more xs ys ms ns (and_right (eqb x y) (precedes xs ys) r))))
    (or_cases (ltb x y) (eqb x y && precedes xs ys) e)

-- behind equal numbers the rest decides
pub precedes_behind : (xs ms ns : List ℕ) → precedes ms ns ≡ true → precedes (xs ++ ms) (xs ++ ns) ≡ true
unfolding precedes
precedes_behind [] ms ns e = e
precedes_behind (x ∷ xs) ms ns e = rw (le-ltb x x (omega arith), eq-eqb x x refl) (precedes_behind xs ms ns e)

-- each element stands before all that follow
unfoldable pub ordered : {A : Type 0} → (A → A → Bool) → List A → Bool
ordered before [] = true
ordered before (x ∷ xs) = every (before x) xs && ordered before xs

pub ordered_at : {A : Type 0} (before : A → A → Bool) (d : A) (xs : List A) → ordered before xs ≡ true → (i j : ℕ) → i < j → j < length xs
    → before (get_or xs i d) (get_or xs j d) ≡ true
unfolding ordered
ordered_at before d [] e i j h g = absurd (omega arith)
ordered_at before d (x ∷ xs) e i zero h g = absurd (omega arith)
ordered_at before d (x ∷ xs) e zero (suc j) h g = every_at (before x) xs (and_left (every (before x) xs) (ordered before xs) e) d j (omega arith)
ordered_at before d (x ∷ xs) e (suc i) (suc j) h g = ordered_at before d xs (and_right (every (before x) xs) (ordered before xs) e) i j (omega arith) (omega arith)
