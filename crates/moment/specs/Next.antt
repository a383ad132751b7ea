-- What a start or a step leaves in lent columns.
use Rattle.std.specs.Prelude.{◌≡◌, List, false, ℕ, length, ltb}
use Rattle.diagram.specs.Table.{Table}
use Rattle.table.specs.declared.Stop.{Stop}
use Rattle.table.specs.Stop.{stopped, full_if}
use Rattle.table.specs.Holds.{Holds, Kept}
use Rattle.rules.specs.Run.{Moment}
use Rattle.record.specs.declared.Run.{Run}
use Rattle.record.specs.Record.{record_of}

-- a start or a step in the table t: the moment where it fits
pub record NextAs (t : Table) (m : Moment) (l w h ix : List ℕ) (stop : Stop) (r : Run) : Type 0 where
  pub stop_is : stop ≡ full_if (ltb (length l) (length m.table))
  pub run_is : stopped stop ≡ false → r ≡ record_of m.run
  pub holds : stopped stop ≡ false → Holds l w h ix m.table r.used
  pub kept : Kept l w h (length l) t
