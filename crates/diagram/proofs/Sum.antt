-- The sum of two times.
use mathlib.Core.Path.{◌≡◌, refl}
use mathlib.Core.Logic.{⊎_elim}
use mathlib.Core.Bool.{or-true, or_comm}
use Prim.Native.Nat.{ℕ, ◌+◌, ◌-◌, ◌<◌, ◌≤◌, min}
use native.Mathlib.Nat.{add_comm}
use native.Mathlib.Omega.{arith}
use lib.Dec.{eqb}
use borrow.Author.Tests.{ne_eqb}
use Rattle.lists.proofs.Cases.{eq_or_ne}
use Rattle.diagram.specs.Table.{never}
use Rattle.diagram.specs.Operation.{sum}

-- never absorbs, on either side
pub sum_never_left : (y : ℕ) → sum never y ≡ never
sum_never_left y = refl

-- the same on the right
pub sum_never_right : (x : ℕ) → sum x never ≡ never
sum_never_right x = rw or-true

-- two times add up, to the largest time at most
pub sum_times : (x y : ℕ) → (x ≡ never → ⊥) → (y ≡ never → ⊥) → sum x y ≡ min (x + y) (never - 1)
sum_times x y nx ny = rw (ne_eqb x never nx, ne_eqb y never ny)

-- the order of the two does not matter
pub sum_comm : (x y : ℕ) → sum x y ≡ sum y x
sum_comm x y = rw (or_comm (eqb x never) (eqb y never), add_comm x y)

-- a sum is at most never
pub sum_most : (x y : ℕ) → sum x y ≤ never
sum_most x y =
    ⊎_elim
    (λ (e : x ≡ never). rw (e, sum_never_left y) (omega arith))
    (λ (nx : x ≡ never → ⊥).
    ⊎_elim
    (λ (e : y ≡ never). rw (e, sum_never_right x) (omega arith))
    (λ (ny : y ≡ never → ⊥). rw (sum_times x y nx ny) (omega arith))
    (eq_or_ne y never))
    (eq_or_ne x never)

-- and never only where one of the two is
pub sum_time : (x y : ℕ) → (x ≡ never → ⊥) → (y ≡ never → ⊥) → sum x y < never
sum_time x y nx ny = rw (sum_times x y nx ny) (omega arith)
