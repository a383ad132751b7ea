-- A table in three columns, as our crates pass them on.
use Rattle.std.specs.Prelude.{ℕ, ◌≡◌, List, [], ◌∷◌, map, Bool, true, ◌&&◌, length, take, drop, leb}
use Rattle.lists.specs.Padded.{padded}
use Rattle.diagram.specs.Table.{Entry, Table, blank, same}
use Rattle.diagram.specs.Sound.{sound}

abbrev pub least_entries : ℕ
least_entries = 3

abbrev pub most_entries : ℕ
most_entries = 65536

-- the entries of three columns
unfoldable pub entries : List ℕ → List ℕ → List ℕ → Table
entries [] ws hs = []
entries (l ∷ ls) [] hs = []
entries (l ∷ ls) (w ∷ ws) [] = []
entries (l ∷ ls) (w ∷ ws) (h ∷ hs) = record { letter = l; low = w; high = h } ∷ entries ls ws hs

-- the table that they hold
abbrev pub held : List ℕ → List ℕ → List ℕ → ℕ → Table
held l w h used = take used (entries l w h)

-- the letter of an entry
abbrev pub letter_of : Entry → ℕ
letter_of x = x.letter

-- its low number
abbrev pub low_of : Entry → ℕ
low_of x = x.low

-- its high number
abbrev pub high_of : Entry → ℕ
high_of x = x.high

-- a column of a given length with a number of each entry of a table, and zeros past them
abbrev pub column_by : (Entry → ℕ) → ℕ → Table → List ℕ
column_by f size t = padded size 0 (map f t)

-- the columns of a given length that hold a table, and nothing past it
pub record HeldIn (size : ℕ) (t : Table) (l w h : List ℕ) : Type 0 where
  pub letter_is : l ≡ column_by letter_of size t
  pub low_is : w ≡ column_by low_of size t
  pub high_is : h ≡ column_by high_of size t

unfoldable pub all_blank : Table → Bool
all_blank [] = true
all_blank (x ∷ xs) = same x blank && all_blank xs

-- the used count is in its range, the table is sound for some letters, and past the used count all is zero
unfoldable pub held_sound : ℕ → List ℕ → List ℕ → List ℕ → ℕ → Bool
held_sound letters l w h used =
    leb least_entries used
    && leb used (length l)
    && sound letters (held l w h used)
    && all_blank (drop used (entries l w h))
