-- What the recursions on a table start from.
use Rattle.std.specs.Prelude.{◌≡◌, List, true, ℕ, ◌+◌, ◌<◌, ◌≤◌, length}
use Rattle.diagram.specs.Pattern.{most_letters}
use Rattle.diagram.specs.Table.{Table, entry_at, part_of}
use Rattle.diagram.specs.Sound.{sound}
use Rattle.diagram.specs.Held.{held}
use Rattle.table.specs.Holds.{Holds}

-- columns that hold a table which is sound for some letters
pub record Legible (letters : ℕ) (l w h : List ℕ) (used : ℕ) : Type 0 where
  pub few : letters ≤ most_letters
  pub low_long : length w ≡ length l
  pub high_long : length h ≡ length l
  pub fits : used ≤ length l
  pub sound : sound letters (held l w h used) ≡ true

-- beside its index
pub record Open (letters : ℕ) (l w h ix : List ℕ) (used : ℕ) : Type 0 where
  pub legible : Legible letters l w h used
  pub holds : Holds l w h ix (held l w h used) used

-- an entry whose letters are among the last `left`
pub record Operand (letters : ℕ) (t : Table) (used left e : ℕ) : Type 0 where
  pub within : e < used
  pub from : letters ≤ (entry_at t e).letter + left

-- the parts of entry e at letter m
pub record PartsOf (t : Table) (m e low high : ℕ) : Type 0 where
  pub low_is : low ≡ part_of t m 0 e
  pub high_is : high ≡ part_of t m 1 e
