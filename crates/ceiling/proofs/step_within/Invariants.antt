-- `step_within`. The loop's invariant: no pattern before p exceeds.
use mathlib.Core.Path.{◌≡◌}
use mathlib.Core.Bool.{true, not}
use Rattle.lists.specs.Tests.{below}
use Rattle.diagram.specs.Held.{held}
use Rattle.rules.specs.Step.{step_exceeds}
use Rattle.rules.specs.Run.{state_of}
use Rattle.net.specs.Net.{net_circuit}
use Rattle.record.specs.Record.{run_of}
use Rattle.ceiling.proofs.step_within.Given as goal

abbrev pub invariant-loop-p : goal.invariant-loop-p
invariant-loop-p l =
    below l.p (λ q. not (step_exceeds (net_circuit l.net) l.time q (state_of (net_circuit l.net) (held l.letter l.low l.high l.r.used) (run_of (net_circuit l.net) l.r) q))) ≡ true
