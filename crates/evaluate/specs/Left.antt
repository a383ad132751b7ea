-- The letters that are left.
use Rattle.std.specs.Prelude.{ℕ, ◌+◌, ◌<◌, ◌≤◌, List, get_or}
use Rattle.net.specs.Roots.{roots_length}

-- all letters of the entries are among the last `left` of the k
abbrev pub Last : (k : ℕ) (letter entries : List ℕ) (left : ℕ) → Type 0
Last k letter entries left = (j : ℕ) → j < roots_length → k ≤ get_or letter (get_or entries j 0) 0 + left

-- the least such number
pub record Left (k : ℕ) (letter entries : List ℕ) (r : ℕ) : Type 0 where
  pub most : r ≤ k
  pub last : Last k letter entries r
  pub least : (left : ℕ) → Last k letter entries left → r ≤ left
