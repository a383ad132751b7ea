-- `sum` meets its contract: never, or a sum of times. Assumes nothing.
use mathlib.Core.Path.{sym}
use native.Mathlib.Omega.{arith}
use Rattle.diagram.proofs.Sum.{sum_never_left, sum_never_right, sum_times}
use Rattle.operations.proofs.apply.sum.Goals as goal

pub returns-then-x-eq-NEVER : goal.returns-then-x-eq-NEVER
returns-then-x-eq-NEVER c = rw c.if-x-eq-NEVER.true (sym (sum_never_left c.args.y))

pub returns-then-y-eq-NEVER : goal.returns-then-y-eq-NEVER
returns-then-y-eq-NEVER c = rw c.if-y-eq-NEVER.true (sym (sum_never_right c.args.x))

pub returns-then-x-y : goal.returns-then-x-y
returns-then-x-y c = omega (arith, sum_times c.args.x c.args.y c.if-x-eq-NEVER.false c.if-y-eq-NEVER.false)

pub returns : goal.returns
returns c = omega (arith, sum_times c.args.x c.args.y c.if-x-eq-NEVER.false c.if-y-eq-NEVER.false)
