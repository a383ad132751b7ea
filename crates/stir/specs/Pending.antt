-- The pending changes of all nodes: entries of the lent table, by node number.
use Rattle.std.specs.Prelude.{◌≡◌, List, ℕ, suc, ◌<◌, length, get_or}
use Rattle.diagram.specs.Table.{Table}
use Rattle.record.specs.Leasts.{Leasts}

-- 26 entries of the table
pub record PendingEntries (used : ℕ) (entries : List ℕ) : Type 0 where
  pub long : length entries ≡ 26
  pub within : (j : ℕ) → j < 26 → get_or entries j 0 < used

-- the least numbers of the pending changes, and of all entries before them
abbrev pub PendingLeasts : ℕ → Table → List ℕ → List ℕ → Type 0
PendingLeasts letters t pending least = (j : ℕ) → j < 26 → Leasts letters t (suc (get_or pending j 0)) least
