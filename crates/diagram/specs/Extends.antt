-- A table that goes on from another.
use Rattle.std.specs.Prelude.{ℕ, ◌<◌, ◌≤◌, ◌≡◌, length}
use Rattle.diagram.specs.Table.{Table, entry_at}

-- the second table begins with the first
pub record Extends (t u : Table) : Type 0 where
  pub longer : length t ≤ length u
  pub kept : (i : ℕ) → i < length t → entry_at u i ≡ entry_at t i
