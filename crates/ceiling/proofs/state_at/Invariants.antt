-- `state_at`. The loop's invariant: the nodes before n have the values and the next changes that the run holds.
use Rattle.diagram.specs.Held.{held}
use Rattle.diagram.specs.Table.{never}
use Rattle.rules.specs.State.{value_at, change_at}
use Rattle.rules.specs.Run.{state_of}
use Rattle.net.specs.Net.{net_circuit}
use Rattle.record.specs.Record.{run_of}
use Rattle.plain.specs.Pattern.{Filled}
use Rattle.ceiling.proofs.state_at.Given as goal

abbrev pub invariant-loop-n : goal.invariant-loop-n
invariant-loop-n l =
    Filled 0 1 (value_at (state_of (net_circuit l.net) (held l.letter l.low l.high l.r.used) (run_of (net_circuit l.net) l.r) l.p)) l.n l.values
    × Filled never never (change_at (state_of (net_circuit l.net) (held l.letter l.low l.high l.r.used) (run_of (net_circuit l.net) l.r) l.p)) l.n l.changes
