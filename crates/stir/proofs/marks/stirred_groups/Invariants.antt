-- `marks::stirred_groups` meets its contract: transistor after transistor. Assumes nothing.
use Rattle.stir.proofs.Marking.{Marking}
use Rattle.stir.proofs.marks.stirred_groups.Given as goal

abbrev pub invariant-loop-i : goal.invariant-loop-i
invariant-loop-i l = Marking l.net l.before l.after l.i l.out
