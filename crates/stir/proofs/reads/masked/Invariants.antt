-- `reads::masked` meets its contract: node after node. Assumes nothing.
use Rattle.stir.proofs.Marking.{Masking}
use Rattle.stir.proofs.reads.masked.Given as goal

abbrev pub invariant-loop-n : goal.invariant-loop-n
invariant-loop-n l = Masking l.marks l.entries l.n l.out
