-- `soonest_change`. The loop's invariant: the earliest of the next changes from node n on.
use mathlib.Core.Path.{◌≡◌}
use Prim.Native.Nat.{◌-◌, ◌≤◌}
use lib.ListN.{drop}
use Rattle.rules.specs.Run.{soonest}
use Rattle.net.specs.Net.{net_circuit}
use Rattle.plain.specs.Pattern.{of_nodes}
use Rattle.plain.proofs.time.soonest_change.Given as goal

abbrev pub invariant-loop-n : goal.invariant-loop-n
invariant-loop-n l = (2 ≤ l.n) × (l.first ≡ soonest l.present (drop (l.n - 2) (of_nodes (net_circuit l.net) l.changes)))
