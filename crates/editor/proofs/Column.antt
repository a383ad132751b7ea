-- The record in a column of 50 numbers: a record written and read back.
use mathlib.Core.Path.{◌≡◌, refl, ◌∙◌, ap}
use mathlib.Core.List.{List, [], ◌∷◌, ◌++◌, append-nil}
use Prim.Native.Nat.{ℕ, ◌+◌, ◌≤◌}
use native.Mathlib.Omega.{arith}
use lib.ListN.{length, get_or, take, drop, set, length-append, length-drop, length-set, drop_of_length-le}
use lib.Seq.{take_at, drop_at, take_all}
use Rattle.record.specs.declared.Run.{Run}
use Rattle.record.specs.Record.{record_of}
use Rattle.record.proofs.Record.{record_long}
use Rattle.rules.specs.Run as defined
use Rattle.editor.specs.Runs.{record_in, record_column}

-- the first two numbers
two_set : (l : List ℕ) (time used : ℕ) → length l ≡ 50 → take 2 (set (set l 0 time) 1 used) ≡ time ∷ used ∷ []
two_set [] time used h = absurd (omega arith)
two_set (x ∷ []) time used h = absurd (omega arith)
two_set (x ∷ y ∷ l) time used h = refl

-- there is room for the values
pub values_room : (l : List ℕ) (time used : ℕ) → length l ≡ 50 → 2 + 24 ≤ length (set (set l 0 time) 1 used)
values_room l time used h = rw (length-set, length-set) (omega arith)

-- and then as many numbers as before
pub as_long : (l l' : List ℕ) (time used : ℕ) → length l ≡ 50 → length l' ≡ length (set (set l 0 time) 1 used) → length l' ≡ 50
as_long l l' time used h e = e ∙ length-set (set l 0 time) 1 used ∙ length-set l 0 time ∙ h

-- so there is room for the next changes
pub changes_room : (l : List ℕ) → length l ≡ 50 → 26 + 24 ≤ length l
changes_room l h = omega arith

-- time, used count, values and next changes written over 50 numbers
pub record_written : (l l' l'' values changes : List ℕ) (time used : ℕ) → length l ≡ 50
    → l' ≡ take 2 (set (set l 0 time) 1 used) ++ values ++ drop 26 (set (set l 0 time) 1 used)
    → length l' ≡ 50 → l'' ≡ take 26 l' ++ changes ++ drop 50 l' → l'' ≡ time ∷ used ∷ values ++ changes
record_written l l' l'' values changes time used h e h' e'' =
    let rest : List ℕ = drop 26 (set (set l 0 time) 1 used) in
    let rest-long : length rest ≡ 24 = rw (length-drop, length-set, length-set) (omega arith) in
    let first : l' ≡ (time ∷ used ∷ values) ++ rest = e ∙ ap (λ (xs : List ℕ). xs ++ values ++ rest) (two_set l time used h) in
    let front : length (time ∷ used ∷ values) ≡ 26 = omega (arith, h', ap length first, length-append (time ∷ used ∷ values) rest, rest-long) in
    let none : drop 50 l' ≡ [] = drop_of_length-le l' {i = 50} (omega (arith, h')) in
    let taken : take 26 l' ≡ time ∷ used ∷ values = ap (λ (xs : List ℕ). take 26 xs) first ∙ take_at (time ∷ used ∷ values) rest 26 front in
    e'' ∙ rw (none, taken, append-nil)

-- the record that was read
pub record_read : (l values changes : List ℕ) → values ≡ take 24 (drop 2 l) → changes ≡ take 24 (drop 26 l)
    → ◌≡◌ {A = Run} (record { time = get_or l 0 0; used = get_or l 1 0; values = values; changes = changes }) (record_in l)
record_read l values changes e e' = rw (e, e')

-- the column of a record has 50 numbers
pub column_length : (r : defined.Run) → length r.values ≤ 24 → length r.changes ≤ 24 → length (record_column (record_of r)) ≡ 50
column_length r h h' =
    let x = record_long r h h' in
    omega (arith, x.0, x.1, length-append (record_of r).values (record_of r).changes)

-- what one call hands over, the next one reads
pub read_back : (r : Run) → length r.values ≡ 24 → length r.changes ≡ 24 → record_in (record_column r) ≡ r
read_back r h h' =
    let values : take 24 (r.values ++ r.changes) ≡ r.values = take_at r.values r.changes 24 h in
    let changes : take 24 (drop 24 (r.values ++ r.changes)) ≡ r.changes =
    ap (λ (xs : List ℕ). take 24 xs) (drop_at r.values r.changes 24 h) ∙ take_all 24 r.changes (omega (arith, h')) in
    rw (values, changes)
