-- Several functions stored one after the other in lent columns.
use Rattle.std.specs.Prelude.{◌≡◌, List, false, ℕ, length, ltb}
use Rattle.lists.specs.Padded.{padded}
use Rattle.format.specs.Legal.{most_nodes}
use Rattle.diagram.specs.Table.{Table}
use Rattle.table.specs.declared.Stop.{Stop}
use Rattle.table.specs.Stop.{stopped, full_if}
use Rattle.table.specs.Holds.{Holds, Kept}
use Rattle.rules.specs.Run.{StoredAll}

-- what a function that stores several functions in the table t is to leave, and its answer: `s` where they fit, an entry for each node record
pub record OutcomeAll (t : Table) (s : StoredAll) (l w h ix : List ℕ) (stop : Stop) (used : ℕ) (entries : List ℕ) : Type 0 where
  pub stop_is : stop ≡ full_if (ltb (length l) (length s.table))
  pub entries_are : stopped stop ≡ false → entries ≡ padded most_nodes 0 s.entries
  pub holds : stopped stop ≡ false → Holds l w h ix s.table used
  pub kept : Kept l w h (length l) t
