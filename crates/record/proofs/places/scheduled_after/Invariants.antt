-- `places::scheduled_after` meets its contract. The loop's invariant: the earliest time so far. Assumes nothing.
use Prim.Native.Nat.{◌+◌}
use mathlib.Core.Path.{◌≡◌}
use Rattle.rules.specs.Run.{least_below}
use Rattle.net.specs.Net.{time_place, at}
use Rattle.record.specs.Numbers.{after_now}
use Rattle.record.proofs.places.scheduled_after.Given as goal

abbrev pub invariant-loop-i : goal.invariant-loop-i
invariant-loop-i l = (l.earliest ≡ least_below l.i (λ j. after_now l.present (at l.net (time_place + j))))
