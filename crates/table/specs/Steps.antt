-- What the steps of the check of a table answer.
use Rattle.std.specs.Prelude.{◌≡◌, List, Bool, true, false, ◌&&◌, ℕ, ◌+◌, ◌<◌, length, get_or, ltb}
use Rattle.lists.specs.Tests.{below}
use Rattle.diagram.specs.Table.{Table, never, terminal, entry_at, same}
use Rattle.diagram.specs.Sound.{entry_legal, distinct}
use Rattle.diagram.specs.Held.{entries, held}
use Rattle.table.specs.Holds.{Ready}

-- a part of entry i, in the letter column
abbrev pub part_in : List ℕ → ℕ → ℕ → ℕ → Bool
part_in l i k e = ltb e i && ltb k (get_or l e 0)

-- rows 0, 1 and 2 are the fixed terminals
abbrev pub three_terminals : Table → Bool
three_terminals t = same (entry_at t 0) (terminal 0) && same (entry_at t 1) (terminal 1) && same (entry_at t 2) (terminal never)

-- all entries are legal, and no two are equal
abbrev pub entries_legal : ℕ → Table → Bool
entries_legal letters t = below (length t) (entry_legal letters t) && distinct t

-- row `at` was put into the index, unless an earlier row equals it
pub record Entered (l w h ix : List ℕ) (at : ℕ) (r : Bool) : Type 0 where
  pub ready : r ≡ true → Ready l w h ix (at + 1)
  pub new : r ≡ true → (j : ℕ) → j < at → entry_at (entries l w h) j ≡ entry_at (entries l w h) at → ⊥
  pub twin : r ≡ false → (j : ℕ) × (j < at) × (entry_at (entries l w h) j ≡ entry_at (entries l w h) at)

-- the used rows were put into the index, unless they are no legal entries
pub record Filled (letters : ℕ) (l w h : List ℕ) (used : ℕ) (ix : List ℕ) (r : Bool) : Type 0 where
  pub is : r ≡ entries_legal letters (held l w h used)
  pub ready : r ≡ true → Ready l w h ix used
