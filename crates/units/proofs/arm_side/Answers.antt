-- `arm_side` follows its definition's three cases; the sum fits 64 bits because the quotient is at most the product.
use Prim.Native.Nat.{◌*◌, ◌≤◌}
use native.Mathlib.Omega.{arith}
use Rattle.units.specs.Rules.{arm_side}
use Rattle.units.proofs.Rounding.{ceil_div_at_most, product_within}
use Rattle.units.proofs.Laws.{divisor_at}
use Rattle.units.proofs.arm_side.Goals as goal

pub overflow_add-from-in-Finite-other-2 : goal.overflow_add-from-in-Finite-other-2
overflow_add-from-in-Finite-other-2 c =
    let r = c.args.r.0 in
    let side = c.in-Finite.s.0 in
    let some : 1 ≤ c.from-in-Finite-other-3.result = omega (arith, divisor_at c.in-Finite.is c.in-Finite-other.is c.requires) in
    omega (arith, ceil_div_at_most some (r * side), product_within {a = r} {b = side} (omega arith) (omega arith))

pub returns-in-Infinite : goal.returns-in-Infinite
unfolding arm_side
returns-in-Infinite c = rw c.in-Infinite.is

pub returns-in-Infinite-other : goal.returns-in-Infinite-other
unfolding arm_side
returns-in-Infinite-other c = rw (c.in-Finite.is, c.in-Infinite-other.is) (cc)

pub returns-in-Finite-other : goal.returns-in-Finite-other
unfolding arm_side
returns-in-Finite-other c =
    rw (c.in-Finite.is, c.in-Finite-other.is) (cc)
