-- `places::inputs_rest` meets its contract. The loop's invariant: every input before i rests. Assumes nothing.
use mathlib.Core.Path.{◌≡◌}
use mathlib.Core.Bool.{true}
use Rattle.lists.specs.Tests.{below}
use Rattle.record.specs.Numbers.{rests_at}
use Rattle.record.proofs.places.inputs_rest.Given as goal

abbrev pub invariant-loop-i : goal.invariant-loop-i
invariant-loop-i l = (below l.i (rests_at l.net l.changes) ≡ true)
