-- Between a table and the three columns that hold it.
use mathlib.Core.Path.{◌≡◌, refl, sym, ◌∙◌, ap}
use mathlib.Core.Bool.{Bool, true, ◌&&◌}
use mathlib.Core.List.{List, [], ◌∷◌, ◌++◌, map}
use Prim.Native.Nat.{ℕ, zero, suc, ◌+◌, ◌-◌, ◌<◌, ◌≤◌}
use native.Mathlib.Omega.{arith}
use lib.ListN.{length, get_or, take, drop, set, replicate, length-map, length-drop, length-replicate, get_or-map, get_or-eq_default}
use lib.Seq.{ext_get_or, get_or-take, get_or-drop, length-take-le}
use lib.Dec.{leb}
use borrow.Author.Tests.{leb-true, le-leb}
use Rattle.lists.specs.Padded.{padded}
use Rattle.lists.proofs.Cases.{and_left, and_right, and_both}
use Rattle.lists.proofs.Padded.{padded_length, padded_take, padded_read, padded_set, padded_of_take, replicate_read}
use Rattle.lists.proofs.Map.{map_append, map_padded}
use Rattle.diagram.specs.Table.{Entry, Table, blank, entry_at, same}
use Rattle.diagram.specs.Sound.{sound}
use Rattle.diagram.specs.Held.{least_entries, entries, held, letter_of, low_of, high_of, column_by, HeldIn, all_blank, held_sound}
use Rattle.diagram.proofs.Sound.{Sound, entry_path, same_equal, equal_same, sound_record, sound_test}

-- as many entries as numbers in a column
rows_length : (ls ws hs : List ℕ) → length ws ≡ length ls → length hs ≡ length ls → length (entries ls ws hs) ≡ length ls
unfolding entries
rows_length [] ws hs p q = refl
rows_length (l ∷ ls) [] hs p q = absurd (omega arith)
rows_length (l ∷ ls) (w ∷ ws) [] p q = absurd (omega arith)
rows_length (l ∷ ls) (w ∷ ws) (h ∷ hs) p q = ap suc (rows_length ls ws hs (omega arith) (omega arith))

-- an entry is made of the numbers at its place
rows_at : (ls ws hs : List ℕ) (i : ℕ) → length ws ≡ length ls → length hs ≡ length ls
    → entry_at (entries ls ws hs) i ≡ record { letter = get_or ls i 0; low = get_or ws i 0; high = get_or hs i 0 }
unfolding entries
rows_at [] [] [] i p q = refl
rows_at [] [] (h ∷ hs) i p q = absurd (omega arith)
rows_at [] (w ∷ ws) hs i p q = absurd (omega arith)
rows_at (l ∷ ls) [] hs i p q = absurd (omega arith)
rows_at (l ∷ ls) (w ∷ ws) [] i p q = absurd (omega arith)
rows_at (l ∷ ls) (w ∷ ws) (h ∷ hs) zero p q = refl
rows_at (l ∷ ls) (w ∷ ws) (h ∷ hs) (suc i) p q = rows_at ls ws hs i (omega arith) (omega arith)

-- equally long columns
module _ (l w h : List ℕ) (low_long : length w ≡ length l) (high_long : length h ≡ length l) where
  -- have as many entries
  pub entries_length : length (entries l w h) ≡ length l
  entries_length = rows_length l w h low_long high_long

  -- an entry is made of the numbers at its place
  pub entries_at : (i : ℕ) → entry_at (entries l w h) i ≡ record { letter = get_or l i 0; low = get_or w i 0; high = get_or h i 0 }
  entries_at i = rows_at l w h i low_long high_long

  column_of : (f : Entry → ℕ) (v : List ℕ) → length v ≡ length l → ((i : ℕ) → f (entry_at (entries l w h) i) ≡ get_or v i 0) → f blank ≡ 0 → map f (entries l w h) ≡ v
  column_of f v long same none =
      ext_get_or 0 (map f (entries l w h)) v (length-map (entries l w h) f ∙ entries_length ∙ sym long)
      (λ i k. ap (get_or (map f (entries l w h)) i) (sym none) ∙ get_or-map f (entries l w h) i blank ∙ same i)

  -- the letters of the entries are the letter column
  pub entries_letter : map letter_of (entries l w h) ≡ l
  entries_letter = column_of letter_of l refl (λ i. ap letter_of (entries_at i)) refl

  -- the low column
  pub entries_low : map low_of (entries l w h) ≡ w
  entries_low = column_of low_of w low_long (λ i. ap low_of (entries_at i)) refl

  -- the high column
  pub entries_high : map high_of (entries l w h) ≡ h
  entries_high = column_of high_of h high_long (λ i. ap high_of (entries_at i)) refl

  -- the table that they hold is as long as the used count
  pub held_length : (used : ℕ) → used ≤ length l → length (held l w h used) ≡ used
  held_length used k = length-take-le used (entries l w h) (omega (arith, entries_length))

  -- an entry of it is made of the numbers at its place
  pub held_at : (used i : ℕ) → i < used → entry_at (held l w h used) i ≡ record { letter = get_or l i 0; low = get_or w i 0; high = get_or h i 0 }
  held_at used i k = get_or-take used (entries l w h) i blank k ∙ entries_at i

-- a column of a table
module _ (f : Entry → ℕ) (none : f blank ≡ 0) (size : ℕ) (t : Table) where
  by_padded : column_by f size t ≡ map f (padded size blank t)
  by_padded = ap (λ (d : ℕ). padded size d (map f t)) (sym none) ∙ sym (map_padded f size blank t)

  -- has the given length
  pub column_length : length t ≤ size → length (column_by f size t) ≡ size
  column_length k = ap length by_padded ∙ length-map (padded size blank t) f ∙ padded_length size blank t k

  -- and at each place the number of the entry there
  pub column_at : (i : ℕ) → get_or (column_by f size t) i 0 ≡ f (entry_at t i)
  column_at i =
      ap (λ (v : List ℕ). get_or v i 0) by_padded
      ∙ ap (get_or (map f (padded size blank t)) i) (sym none)
      ∙ get_or-map f (padded size blank t) i blank
      ∙ ap f (padded_read size blank t i)

  -- a new entry's number is written at the table's length
  pub column_set : (x : Entry) → length t < size → set (column_by f size t) (length t) (f x) ≡ column_by f size (t ++ x ∷ [])
  column_set x k =
      let n : length (map f t) ≡ length t = length-map t f in
      ap (λ (i : ℕ). set (padded size 0 (map f t)) i (f x)) (sym n) ∙ padded_set size 0 (map f t) (f x) (omega arith) ∙ ap (padded size 0) (sym (map_append f t (x ∷ [])))

-- columns that hold a table
module _ {size : ℕ} {t : Table} {l w h : List ℕ} (g : HeldIn size t l w h) (fits : length t ≤ size) where
  -- have the given length
  pub letter_long : length l ≡ size
  letter_long = ap length g.letter_is ∙ column_length letter_of refl size t fits

  pub low_long : length w ≡ length l
  low_long = ap length g.low_is ∙ column_length low_of refl size t fits ∙ sym letter_long

  pub high_long : length h ≡ length l
  high_long = ap length g.high_is ∙ column_length high_of refl size t fits ∙ sym letter_long

  -- their entries are the table's, then blank ones
  pub held_entries : entries l w h ≡ padded size blank t
  held_entries =
      ext_get_or blank (entries l w h) (padded size blank t) (entries_length l w h low_long high_long ∙ letter_long ∙ sym (padded_length size blank t fits)) (λ i k.
      entries_at l w h low_long high_long i
      ∙ entry_path _ (entry_at t i)
      (ap (λ (v : List ℕ). get_or v i 0) g.letter_is ∙ column_at letter_of refl size t i)
      (ap (λ (v : List ℕ). get_or v i 0) g.low_is ∙ column_at low_of refl size t i)
      (ap (λ (v : List ℕ). get_or v i 0) g.high_is ∙ column_at high_of refl size t i)
      ∙ sym (padded_read size blank t i))

  -- so they hold it
  pub held_is : held l w h (length t) ≡ t
  held_is = ap (take (length t)) held_entries ∙ padded_take size blank t

-- with an entry written at the table's length they hold one more
pub held_next : {size : ℕ} {t : Table} {l w h : List ℕ} → HeldIn size t l w h → (x : Entry) → length t < size
    → HeldIn size (t ++ x ∷ []) (set l (length t) x.letter) (set w (length t) x.low) (set h (length t) x.high)
held_next {size} {t} g x k = record {
  letter_is = ap (λ (v : List ℕ). set v (length t) x.letter) g.letter_is ∙ column_set letter_of refl size t x k;
  low_is = ap (λ (v : List ℕ). set v (length t) x.low) g.low_is ∙ column_set low_of refl size t x k;
  high_is = ap (λ (v : List ℕ). set v (length t) x.high) g.high_is ∙ column_set high_of refl size t x k;
}

-- entries that pass the test for blanks are blank
pub blank_each : (xs : Table) → all_blank xs ≡ true → (i : ℕ) → entry_at xs i ≡ blank
unfolding all_blank
blank_each [] e i = refl
blank_each (x ∷ xs) e zero = same_equal x blank (and_left (same x blank) (all_blank xs) e)
blank_each (x ∷ xs) e (suc i) = blank_each xs (and_right (same x blank) (all_blank xs) e) i

-- blank entries pass the test
pub each_blank : (xs : Table) → ((i : ℕ) → i < length xs → entry_at xs i ≡ blank) → all_blank xs ≡ true
unfolding all_blank
each_blank [] h = refl
each_blank (x ∷ xs) h = and_both (same x blank) (all_blank xs) (equal_same x blank (h 0 (omega arith))) (each_blank xs (λ i l. h (suc i) (omega arith)))

-- columns that hold a sound table
pub record HeldSound (letters : ℕ) (l w h : List ℕ) (used : ℕ) : Type 0 where
  pub three : least_entries ≤ used
  pub fits : used ≤ length l
  pub table : Sound letters (held l w h used)
  pub past : (i : ℕ) → used ≤ i → entry_at (entries l w h) i ≡ blank

module _ (letters : ℕ) (l w h : List ℕ) (used : ℕ) where
  -- columns that pass the test
  pub held_record : held_sound letters l w h used ≡ true → HeldSound letters l w h used
  unfolding held_sound
  held_record e =
      let a : Bool = leb least_entries used in
      let b : Bool = leb used (length l) in
      let d : Bool = sound letters (held l w h used) in
      let g : Bool = all_blank (drop used (entries l w h)) in
      let abd : (a && b && d) ≡ true = and_left (a && b && d) g e in
      let ab : (a && b) ≡ true = and_left (a && b) d abd in
      record {
        three = leb-true least_entries used (and_left a b ab);
        fits = leb-true used (length l) (and_right a b ab);
        table = sound_record letters (held l w h used) (and_right (a && b) d abd);
        past = λ i le.
            let there : i ≡ used + (i - used) = omega arith in
            ap (entry_at (entries l w h)) there
            ∙ sym (get_or-drop used (entries l w h) (i - used) blank)
            ∙ blank_each (drop used (entries l w h)) (and_right (a && b && d) g e) (i - used);
      }

  -- and the converse
  pub held_test : HeldSound letters l w h used → held_sound letters l w h used ≡ true
  unfolding held_sound
  held_test s =
      rw (le-leb least_entries used s.three, le-leb used (length l) s.fits, sound_test letters (held l w h used) s.table)
      (each_blank (drop used (entries l w h)) (λ i k. get_or-drop used (entries l w h) i blank ∙ s.past (used + i) (omega arith)))

  -- they hold their table, and nothing past it
  pub held_whole : length w ≡ length l → length h ≡ length l → HeldSound letters l w h used → HeldIn (length l) (held l w h used) l w h
  held_whole low_same high_same s =
      let size : ℕ = length l in
      let t : Table = held l w h used in
      let long : length (entries l w h) ≡ size = entries_length l w h low_same high_same in
      let rest : drop used (entries l w h) ≡ replicate (length (entries l w h) - used) blank =
      ext_get_or blank (drop used (entries l w h)) (replicate (length (entries l w h) - used) blank)
      (length-drop used (entries l w h) ∙ sym (length-replicate (length (entries l w h) - used) blank))
      (λ i g. get_or-drop used (entries l w h) i blank ∙ s.past (used + i) (omega arith) ∙ sym (replicate_read (length (entries l w h) - used) i blank)) in
      let whole : padded size blank t ≡ entries l w h = ap (λ (n : ℕ). padded n blank t) (sym long) ∙ padded_of_take blank (entries l w h) used (omega (arith, s.fits)) rest in
      record {
        letter_is = sym (by_padded letter_of refl size t ∙ ap (map letter_of) whole ∙ entries_letter l w h low_same high_same);
        low_is = sym (by_padded low_of refl size t ∙ ap (map low_of) whole ∙ entries_low l w h low_same high_same);
        high_is = sym (by_padded high_of refl size t ∙ ap (map high_of) whole ∙ entries_high l w h low_same high_same);
      }

-- columns that hold a sound table, and nothing past it, are sound
pub held_sound_lem : {letters size : ℕ} {t : Table} {l w h : List ℕ} → HeldIn size t l w h → length t ≤ size → Sound letters t → HeldSound letters l w h (length t)
held_sound_lem {letters} {size} {t} g fits s =
    let n = letter_long g fits in
    record {
      three = s.three;
      fits = omega arith;
      table = rw (held_is g fits) s;
      past = λ i le. ap (λ (r : Table). entry_at r i) (held_entries g fits) ∙ padded_read size blank t i ∙ get_or-eq_default t blank le;
    }
