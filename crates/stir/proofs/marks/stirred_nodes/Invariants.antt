-- `marks::stirred_nodes` meets its contract: node after node. Assumes nothing.
use Rattle.stir.proofs.Marking.{Naming}
use Rattle.stir.proofs.marks.stirred_nodes.Given as goal

abbrev pub invariant-loop-n : goal.invariant-loop-n
invariant-loop-n l = Naming l.net l.groups l.all l.n l.out
