use native.Mathlib.Omega.{arith}
use Rattle.stir.proofs.Marking.{masking_first, masking_next, masking_done}
use Rattle.stir.proofs.reads.masked.Goals as goal

pub loop-n-init : goal.loop-n-init
loop-n-init c = masking_first _ _

pub loop-n-preserved : goal.loop-n-preserved
loop-n-preserved c = masking_next c.loop-n.invariant c.loop-n-test.true c.kept_entry.ensures

pub returns : goal.returns
returns c = masking_done c.loop-n.invariant (omega (arith, c.loop-n-test.false))
