-- `all_by_marks` meets its contract: node after node. Assumes nothing.
use mathlib.Core.Path.{◌≡◌}
use lib.ListN.{length}
use Rattle.net.specs.Net.{at, net_circuit}
use Rattle.values.proofs.Series.{Storing}
use Rattle.marked.specs.Mixed.{mixed_of}
use Rattle.diagram.specs.Held.{held}
use Rattle.marked.proofs.nodes.all_by_marks.Given as goal

abbrev pub invariant-loop-i : goal.invariant-loop-i
invariant-loop-i l = Storing (length (net_circuit l.net).nodes) (at l.net 3) (mixed_of (net_circuit l.net) l.time (at l.net 3) (held l.initial.letter l.initial.low l.initial.high l.used) (held l.wletter l.wlow l.whigh l.wused) l.roots l.marks l.pending) l.initial.letter l.initial.low l.initial.high l.initial.index l.used l.letter l.low l.high l.index l.now l.out l.i × (length l.memo ≡ length l.initial.memo)
