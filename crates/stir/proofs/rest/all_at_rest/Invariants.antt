-- `all_at_rest` meets its contract: node after node. Assumes nothing.
use lib.ListN.{length}
use Rattle.net.specs.Net.{at, net_circuit}
use Rattle.values.proofs.Series.{Storing}
use Rattle.stir.specs.Rest.{rest_of}
use Rattle.diagram.specs.Held.{held}
use Rattle.stir.proofs.rest.all_at_rest.Given as goal

abbrev pub invariant-loop-i : goal.invariant-loop-i
invariant-loop-i l = Storing (length (net_circuit l.net).nodes) (at l.net 3) (rest_of (net_circuit l.net) l.time (at l.net 3) (held l.initial.letter l.initial.low l.initial.high l.used) l.pending) l.initial.letter l.initial.low l.initial.high l.initial.index l.used l.letter l.low l.high l.index l.now l.out l.i
