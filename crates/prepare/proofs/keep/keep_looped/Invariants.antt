-- `keep_looped` meets its contract: transistor after transistor, each with the matrix that the earlier ones left. Assumes nothing.
use Rattle.net.specs.Net.{at, net_circuit}
use Rattle.prepare.proofs.Keeping.{Going}
use Rattle.diagram.specs.Held.{held}
use Rattle.prepare.proofs.keep.keep_looped.Given as goal

abbrev pub invariant-loop-i : goal.invariant-loop-i
invariant-loop-i l = Going (net_circuit l.net) (at l.net 0) l.k (held l.initial.letter l.initial.low l.initial.high l.used) l.values l.active l.initial.letter l.initial.low l.initial.high l.initial.index l.letter l.low l.high l.index l.now l.out l.joined l.i
