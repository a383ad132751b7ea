-- `parallel` follows its definition's three cases; the quotient fits 32 bits because it is at most the first operand.
use Prim.Native.Nat.{◌+◌}
use native.Mathlib.Omega.{arith}
use Rattle.units.proofs.Rounding.{ceil_div_factor}
use Rattle.units.specs.Rules.{parallel}
use Rattle.units.proofs.Resistance.parallel.Goals as goal

pub overflow_cast-result : goal.overflow_cast-result
overflow_cast-result c =
    let a = c.in-Finite.a.0 in
    let b = c.in-Finite-other.b.0 in
    omega (arith, c.scaled.ensures, ceil_div_factor a {c = b} {b = c.from.result + c.from-in-Finite-other.result} (omega arith))

pub returns-in-Infinite : goal.returns-in-Infinite
unfolding parallel
returns-in-Infinite c = rw c.in-Infinite.is

pub returns-in-Infinite-other : goal.returns-in-Infinite-other
unfolding parallel
returns-in-Infinite-other c = rw (c.in-Finite.is, c.in-Infinite-other.is)

pub returns-in-Finite-other : goal.returns-in-Finite-other
unfolding parallel
returns-in-Finite-other c = rw (c.in-Finite.is, c.in-Finite-other.is) (cc)
