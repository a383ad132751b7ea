-- The roots of one node's descent among those of a step, and the entries by which it is evaluated among those of a step.
use Rattle.std.specs.Prelude.{◌≡◌, List, ℕ, ◌+◌, ◌<◌, length, get_or}
use Rattle.net.specs.Roots.{pending_place, roots_length, after_place, change_place}

-- values, kept functions and seeds of all, the next change of node n alone
pub record RootsFor (roots : List ℕ) (n : ℕ) (out : List ℕ) : Type 0 where
  pub long : length out ≡ roots_length
  pub first : (j : ℕ) → j < pending_place → get_or out j 0 ≡ get_or roots j 0
  pub pending : get_or out pending_place 0 ≡ get_or roots (pending_place + n) 0

-- 26 entries from a place on
pub record PartOf (entries : List ℕ) (from : ℕ) (out : List ℕ) : Type 0 where
  pub long : length out ≡ after_place
  pub is : (j : ℕ) → j < after_place → get_or out j 0 ≡ get_or entries (from + j) 0

-- values before T, values after it, and the pending change of node n
pub record EntriesOf (before after pending : List ℕ) (n : ℕ) (entries : List ℕ) : Type 0 where
  pub long : length entries ≡ roots_length
  pub before_at : (j : ℕ) → j < after_place → get_or entries j 0 ≡ get_or before j 0
  pub after_at : (j : ℕ) → j < after_place → get_or entries (after_place + j) 0 ≡ get_or after j 0
  pub pending_at : get_or entries change_place 0 ≡ get_or pending n 0
