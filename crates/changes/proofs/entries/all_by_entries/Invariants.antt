-- `all_by_entries` meets its contract: node after node, in the table as it grows. Assumes nothing.
use lib.ListN.{length}
use Rattle.net.specs.Net.{at, net_circuit}
use Rattle.values.proofs.Series.{Storing}
use Rattle.marked.specs.Changes.{change_of}
use Rattle.marked.proofs.Entries.{SameLengths}
use Rattle.diagram.specs.Held.{held}
use Rattle.changes.proofs.entries.all_by_entries.Given as goal

abbrev pub invariant-loop-i : goal.invariant-loop-i
invariant-loop-i l = Storing (length (net_circuit l.net).nodes) (at l.net 3) (change_of (net_circuit l.net) l.time l.all (at l.net 3) (held l.initial.letter l.initial.low l.initial.high l.used) l.before l.after l.pending) l.initial.letter l.initial.low l.initial.high l.initial.index l.used l.letter l.low l.high l.index l.now l.out l.i × SameLengths l.initial.wletter l.initial.wlow l.initial.whigh l.initial.windex l.wletter l.wlow l.whigh l.windex
