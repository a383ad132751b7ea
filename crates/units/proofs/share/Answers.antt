-- `share` follows its definition's cases; the quotient fits 32 bits because it is at most the charge.
use Prim.Native.Nat.{◌+◌}
use native.Mathlib.Omega.{arith}
use Rattle.units.specs.Rules.{share}
use Rattle.units.proofs.Rounding.{ceil_div_factor}
use Rattle.units.proofs.share.Goals as goal

pub overflow_cast-result : goal.overflow_cast-result
overflow_cast-result c =
    let far = c.in-Finite.f in
    omega (arith, c.scaled.ensures, ceil_div_factor c.args.charge.0 {c = far.0} {b = c.from.result + c.from-in-Finite.result} (omega arith))

pub returns-in-Infinite : goal.returns-in-Infinite
unfolding share
returns-in-Infinite c = rw c.in-Infinite.is

pub returns-in-Finite : goal.returns-in-Finite
unfolding share
returns-in-Finite c = rw c.in-Finite.is (cc)
