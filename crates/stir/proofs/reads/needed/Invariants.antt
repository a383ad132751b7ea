-- `reads::needed` meets its contract: transistor after transistor. Assumes nothing.
use Rattle.stir.proofs.Needing.{Needing}
use Rattle.stir.proofs.reads.needed.Given as goal

abbrev pub invariant-loop-i : goal.invariant-loop-i
invariant-loop-i l = Needing l.net l.marks l.i l.out
