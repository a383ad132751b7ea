-- `keep_rest` meets its contract: transistor after transistor.
use Rattle.diagram.specs.Held.{held}
use Rattle.net.specs.Net.{at, net_circuit}
use Rattle.prepare.proofs.Opening.{Resting}
use Rattle.prepare.proofs.open.keep_rest.Given as goal

abbrev pub invariant-loop-i : goal.invariant-loop-i
invariant-loop-i l = Resting (net_circuit l.net) (at l.net 0) l.k (held l.initial.letter l.initial.low l.initial.high l.used) l.values l.active l.initial.out l.from l.initial.letter l.initial.low l.initial.high l.initial.index l.letter l.low l.high l.index l.now l.out l.i
