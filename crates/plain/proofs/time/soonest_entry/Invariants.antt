-- `soonest_entry`. The loop's invariant: the earliest time of the entries from i on.
use mathlib.Core.Path.{◌≡◌}
use mathlib.Core.List.{List, map}
use Prim.Native.Nat.{ℕ}
use lib.ListN.{drop}
use Rattle.format.specs.declared.Entry.{Entry}
use Rattle.rules.specs.Run.{soonest}
use Rattle.net.specs.Net.{net_circuit}
use Rattle.plain.proofs.time.soonest_entry.Given as goal

-- the times of the schedule
abbrev pub times : List ℕ → List ℕ
times net = map (λ (e : Entry). e.time.0) (net_circuit net).schedule

abbrev pub invariant-loop-i : goal.invariant-loop-i
invariant-loop-i l = l.first ≡ soonest l.present (drop l.i (times l.net))
