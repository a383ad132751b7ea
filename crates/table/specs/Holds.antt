-- Columns that hold a table beside its index, and what a function that stores leaves in them.
use Rattle.std.specs.Prelude.{◌≡◌, List, ◌++◌, Bool, true, false, ℕ, ◌-◌, ◌*◌, ◌/◌, ◌<◌, ◌≤◌, min, length, take, replicate, ltb}
use Rattle.diagram.specs.Table.{Entry, Table, entry_at}
use Rattle.diagram.specs.Sound.{distinct}
use Rattle.diagram.specs.Store.{Stored}
use Rattle.diagram.specs.Held.{least_entries, most_entries, entries, held, HeldIn, held_sound}
use Rattle.table.specs.declared.Put.{Put}
use Rattle.table.specs.Stop.{stopped, full_if}
use Rattle.table.specs.Index.{Indexed}

-- columns of legal lengths, and an index that is long enough for them
pub record Sized (l w h ix : List ℕ) : Type 0 where
  pub least : least_entries ≤ length l
  pub most : length l ≤ most_entries
  pub low_long : length w ≡ length l
  pub high_long : length h ≡ length l
  pub even : length ix ≡ 2 * (length ix / 2)
  pub room : length l ≤ length ix / 2

-- functions are first tried in so many entries of the working columns
abbrev pub first_entries : ℕ
first_entries = 4096

-- working columns of legal lengths, and an index that is long enough for their first entries
pub record Lent (l w h ix : List ℕ) : Type 0 where
  pub least : least_entries ≤ length l
  pub most : length l ≤ most_entries
  pub low_long : length w ≡ length l
  pub high_long : length h ≡ length l
  pub room : 2 * min (length l) first_entries ≤ length ix

-- the first `used` rows are in the index
pub record Ready (l w h ix : List ℕ) (used : ℕ) : Type 0 where
  pub sized : Sized l w h ix
  pub fits : used ≤ length l
  pub index : Indexed (length ix / 2) (entries l w h) used ix

-- the columns hold the table t, whose entries differ, and nothing past it
pub record Holds (l w h ix : List ℕ) (t : Table) (used : ℕ) : Type 0 where
  pub ready : Ready l w h ix used
  pub is : HeldIn (length l) t l w h
  pub long : used ≡ length t
  pub apart : distinct t ≡ true

-- the entries of t still stand; whatever is past them
pub record Kept (l w h : List ℕ) (size : ℕ) (t : Table) : Type 0 where
  pub letter_long : length l ≡ size
  pub low_long : length w ≡ size
  pub high_long : length h ≡ size
  pub fits : length t ≤ size
  pub table : held l w h (length t) ≡ t

-- what a function that stores in the table t is to leave, and its answer: `s` where it fits; else as much of `s` as there are rows
pub record Outcome (t : Table) (s : Stored) (l w h ix : List ℕ) (r : Put) : Type 0 where
  pub stop : r.stop ≡ full_if (ltb (length l) (length s.table))
  pub entry : stopped r.stop ≡ false → r.entry ≡ s.entry
  pub holds : stopped r.stop ≡ false → Holds l w h ix s.table r.used
  pub crowded : stopped r.stop ≡ true → Holds l w h ix (take (length l) s.table) (length l)
  pub kept : Kept l w h (length l) t

-- the place of an entry among the first n rows, or n
pub record Sought (t : Table) (n : ℕ) (x : Entry) (r : ℕ) : Type 0 where
  pub within : r ≤ n
  pub there : r < n → entry_at t r ≡ x
  pub missing : r ≡ n → (i : ℕ) → i < n → entry_at t i ≡ x → ⊥

-- a column with zeros from a place on
abbrev pub zero_from : ℕ → List ℕ → List ℕ
zero_from n l = take n l ++ replicate (length l - n) 0

-- whether the columns are sound for some letters; where they are, the columns and the index hold the table
pub record Judged (letters : ℕ) (l w h : List ℕ) (used : ℕ) (ix : List ℕ) (r : Bool) : Type 0 where
  pub is : r ≡ held_sound letters l w h used
  pub holds : r ≡ true → Holds l w h ix (held l w h used) used

-- an index of nothing
abbrev pub Empty : List ℕ → Type 0
Empty ix = ix ≡ replicate (length ix) 0

-- a length for the index of columns of a size
pub record IndexLength (size r : ℕ) : Type 0 where
  pub even : r ≡ 2 * (r / 2)
  pub room : size ≤ r / 2
  pub most : r ≤ 131072
