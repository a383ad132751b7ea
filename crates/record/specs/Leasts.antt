-- The least numbers of the entries of a table, in a column beside it.
use Rattle.std.specs.Prelude.{◌≡◌, List, ℕ, ◌<◌, ◌≤◌, length, get_or}
use Rattle.diagram.specs.Table.{Table}
use Rattle.record.specs.Numbers.{least_of}

-- the first `done` numbers of the column are the least numbers of the entries, each over all patterns
pub record Leasts (letters : ℕ) (t : Table) (done : ℕ) (least : List ℕ) : Type 0 where
  pub within : done ≤ length least
  pub is : (e : ℕ) → e < done → get_or least e 0 ≡ least_of letters t e
