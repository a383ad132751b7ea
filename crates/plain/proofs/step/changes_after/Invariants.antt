-- `changes_after`. The loop's invariant: the nodes before n have their next changes, in every state that the columns show.
use Rattle.diagram.specs.Table.{never}
use Rattle.rules.specs.State.{State}
use Rattle.net.specs.Net.{net_circuit}
use Rattle.plain.specs.Settle.{change_between, Showing}
use Rattle.plain.specs.Pattern.{Filled}
use Rattle.plain.proofs.step.changes_after.Given as goal

abbrev pub invariant-loop-n : goal.invariant-loop-n
invariant-loop-n l =
    (s t : State) → Showing l.net l.time l.before l.after l.pending s t → Filled never never (change_between (net_circuit l.net) l.time l.all s t) l.n l.changes
