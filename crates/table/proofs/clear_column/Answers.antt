use native.Mathlib.Omega.{arith}
use Rattle.table.proofs.Clearing.{clearing_none, clearing_piece, clearing_all}
use Rattle.table.proofs.clear_column.Goals as goal

pub loop-i-init : goal.loop-i-init
loop-i-init c = clearing_none _ _

pub loop-i-preserved : goal.loop-i-preserved
loop-i-preserved c = clearing_piece c.loop-i.invariant (omega arith) (omega arith) (c.fill.ensures.after (λ y e. e))

pub returns : goal.returns
returns c = clearing_all c.loop-i.invariant c.loop-i-test.false
