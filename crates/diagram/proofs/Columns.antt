-- Lent columns: their lengths, and the table that they hold.
use mathlib.Core.Path.{◌≡◌, refl, sym}
use mathlib.Core.Bool.{Bool, true, ◌&&◌}
use mathlib.Core.List.{List}
use Prim.Native.Nat.{ℕ, ◌≤◌}
use native.Mathlib.Omega.{arith}
use lib.ListN.{length}
use lib.Dec.{leb, eqb}
use borrow.Author.Tests.{leb-true, eqb-true, le-leb, eq-eqb}
use Rattle.lists.proofs.Cases.{and_left, and_right}
use Rattle.diagram.specs.Table.{Table}
use Rattle.diagram.specs.Sound.{sound}
use Rattle.diagram.specs.Held.{least_entries, most_entries, HeldIn}
use Rattle.diagram.specs.Call.{Columns, columns, lengths_legal, table_of, columns_of, columns_sound}
use Rattle.diagram.proofs.Sound.{Sound, sound_record}
use Rattle.diagram.proofs.Held.{HeldSound, held_length, letter_long, low_long, high_long, held_is, held_record, held_test, held_whole, held_sound_lem}

-- columns of legal lengths
pub record Lengths (c : Columns) : Type 0 where
  pub least : least_entries ≤ length c.letter
  pub most : length c.letter ≤ most_entries
  pub low_long : length c.low ≡ length c.letter
  pub high_long : length c.high ≡ length c.letter

-- lengths that pass the test
pub lengths_record : (c : Columns) → lengths_legal c ≡ true → Lengths c
lengths_record c e =
    let n : ℕ = length c.letter in
    let a : Bool = leb least_entries n in
    let b : Bool = leb n most_entries in
    let d : Bool = eqb (length c.low) n in
    let g : Bool = eqb (length c.high) n in
    let abd : (a && b && d) ≡ true = and_left (a && b && d) g e in
    let ab : (a && b) ≡ true = and_left (a && b) d abd in
    record {
      least = leb-true least_entries n (and_left a b ab);
      most = leb-true n most_entries (and_right a b ab);
      low_long = eqb-true (length c.low) n (and_right (a && b) d abd);
      high_long = eqb-true (length c.high) n (and_right (a && b && d) g e);
    }

-- legal lengths pass it
pub lengths_test : (c : Columns) → Lengths c → lengths_legal c ≡ true
lengths_test c h =
    let n : ℕ = length c.letter in
    rw (le-leb least_entries n h.least, le-leb n most_entries h.most, eq-eqb (length c.low) n h.low_long, eq-eqb (length c.high) n h.high_long)

-- a table that the columns hold is as long as the used count
pub table_length_lem : (c : Columns) → length c.low ≡ length c.letter → length c.high ≡ length c.letter → (used : ℕ) → used ≤ length c.letter → length (table_of c used) ≡ used
table_length_lem c low_same high_same used h = held_length c.letter c.low c.high low_same high_same used h

-- equal where the columns are
pub columns_path : (c d : Columns) → c.letter ≡ d.letter → c.low ≡ d.low → c.high ≡ d.high → c ≡ d
columns_path c d p q r = λ i. record { letter = p i; low = q i; high = r i }

module _ (size : ℕ) (t : Table) where
  -- a table's columns hold it, and nothing past it
  pub columns_held : HeldIn size t (columns_of size t).letter (columns_of size t).low (columns_of size t).high
  unfolding columns_of
  columns_held = record { letter_is = refl; low_is = refl; high_is = refl }

  -- and columns that do are the table's
  pub held_columns : {l w h : List ℕ} → HeldIn size t l w h → columns l w h ≡ columns_of size t
  unfolding columns_of
  held_columns g = columns_path _ _ g.letter_is g.low_is g.high_is

  -- they have the given length
  pub columns_length : length t ≤ size → length (columns_of size t).letter ≡ size
  columns_length h = letter_long columns_held h

  -- so they are legal where the size is
  pub columns_lengths : least_entries ≤ size → size ≤ most_entries → length t ≤ size → Lengths (columns_of size t)
  columns_lengths least most h =
      let n : length (columns_of size t).letter ≡ size = columns_length h in
      record { least = omega arith; most = omega arith; low_long = low_long columns_held h; high_long = high_long columns_held h }

  -- a table's columns hold the table
  pub table_columns : length t ≤ size → table_of (columns_of size t) (length t) ≡ t
  table_columns h = held_is columns_held h

-- sound columns
abbrev pub ColumnsSound : ℕ → Columns → ℕ → Type 0
ColumnsSound letters c used = HeldSound letters c.letter c.low c.high used

-- columns that pass the test
pub columns_record : (letters : ℕ) (c : Columns) (used : ℕ) → columns_sound letters c used ≡ true → ColumnsSound letters c used
columns_record letters c used e = held_record letters c.letter c.low c.high used e

-- sound columns pass it
pub columns_test : (letters : ℕ) (c : Columns) (used : ℕ) → ColumnsSound letters c used → columns_sound letters c used ≡ true
columns_test letters c used h = held_test letters c.letter c.low c.high used h

-- sound columns are the columns of the table that they hold
pub columns_table : {letters : ℕ} (c : Columns) (used : ℕ) → Lengths c → ColumnsSound letters c used → columns_of (length c.letter) (table_of c used) ≡ c
columns_table {letters} c used l h =
    sym (held_columns (length c.letter) (table_of c used) (held_whole letters c.letter c.low c.high used l.low_long l.high_long h))

-- the columns of a sound table are sound
pub columns_sound_lem : {letters : ℕ} (size : ℕ) (t : Table) → Sound letters t → length t ≤ size → ColumnsSound letters (columns_of size t) (length t)
columns_sound_lem size t s h = held_sound_lem (columns_held size t) h s

-- the same as tests
pub columns_sound_test : (letters size : ℕ) (t : Table) → sound letters t ≡ true → length t ≤ size → columns_sound letters (columns_of size t) (length t) ≡ true
columns_sound_test letters size t e h = columns_test letters (columns_of size t) (length t) (columns_sound_lem size t (sound_record letters t e) h)
