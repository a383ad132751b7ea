-- `start_within`. The loop's invariant: no pattern before p exceeds.
use mathlib.Core.Path.{◌≡◌}
use mathlib.Core.Bool.{true, not}
use Rattle.lists.specs.Tests.{below}
use Rattle.rules.specs.Step.{start_exceeds}
use Rattle.net.specs.Net.{net_circuit}
use Rattle.ceiling.proofs.start_within.Given as goal

abbrev pub invariant-loop-p : goal.invariant-loop-p
invariant-loop-p l = below l.p (λ q. not (start_exceeds (net_circuit l.net) q)) ≡ true
