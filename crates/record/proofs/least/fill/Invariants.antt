-- `least::fill` meets its contract. The loop's invariant: the column is right before e. Assumes nothing.
use mathlib.Core.Path.{◌≡◌}
use lib.ListN.{length}
use Rattle.diagram.specs.Held.{held}
use Rattle.record.specs.Leasts.{Leasts}
use Rattle.record.proofs.least.fill.Given as goal

abbrev pub invariant-loop-e : goal.invariant-loop-e
invariant-loop-e l =
    (length l.least ≡ length l.initial.least) × Leasts l.k (held l.letter l.low l.high l.used) l.e l.least
