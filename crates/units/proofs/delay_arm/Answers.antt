-- `delay_arm` follows its definition's two cases; two operands up to the ceiling fit 32 bits together.
use mathlib.Core.Path.{subst}
use native.Mathlib.Omega.{arith}
use Rattle.units.specs.Rules.{ceiling, arm_side}
use Rattle.units.specs.Range.{AtMost}
use Rattle.units.proofs.delay_arm.Goals as goal

pub overflow_add-result : goal.overflow_add-result
overflow_add-result c =
    let pre = c.requires in
    omega (arith, pre.0, subst (AtMost ceiling) c.in-Finite.is pre.1)

pub returns-in-Infinite : goal.returns-in-Infinite
unfolding arm_side
returns-in-Infinite c = rw c.in-Infinite.is

pub returns-in-Finite : goal.returns-in-Finite
unfolding arm_side
returns-in-Finite c = rw c.in-Finite.is
