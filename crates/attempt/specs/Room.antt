-- Working columns beside numbers that have room for their index.
use Rattle.std.specs.Prelude.{◌≡◌, List, ℕ, ◌*◌, ◌≤◌, length}
use Rattle.diagram.specs.Held.{least_entries, most_entries}

-- columns of legal lengths, and at least two numbers for each of their entries
pub record Roomy (l w h ix : List ℕ) : Type 0 where
  pub least : least_entries ≤ length l
  pub most : length l ≤ most_entries
  pub low_long : length w ≡ length l
  pub high_long : length h ≡ length l
  pub room : 2 * length l ≤ length ix
