-- A run beside the columns of its table.
use Rattle.std.specs.Prelude.{ℕ, List}
use Rattle.diagram.specs.Held.{held}
use Rattle.rules.specs.Run.{Run, Moment}

-- the run and the table that the columns hold
abbrev pub moment_held : List ℕ → List ℕ → List ℕ → Run → Moment
moment_held l w h r = record { run = r; table = held l w h r.used }
