-- The calls on a lent table: three columns and a used count; refusals 8, 7, 9, 6 in that order.
use Rattle.std.specs.Prelude.{ℕ, List, Bool, ◌&&◌, length, leb, ltb, eqb}
use Rattle.refusal.specs.declared.Refusal.TheVariants.{Buffer, Unsound, Question, Full}
use Rattle.refusal.specs.Answer.{Answer, refused, answered, check}
use Rattle.diagram.specs.declared.Operation.{Operation}
use Rattle.diagram.specs.Pattern.{most_letters, patterns}
use Rattle.diagram.specs.Table.{Table, number_at}
use Rattle.diagram.specs.Store.{Stored, stored, store, fresh}
use Rattle.diagram.specs.Operation.{applied, chosen, letter_fixed, two_valued, count}
use Rattle.diagram.specs.Held.{least_entries, most_entries, entries, held, letter_of, low_of, high_of, column_by, held_sound}

-- the columns that are lent
pub record Columns : Type 0 where
  pub letter : List ℕ
  pub low : List ℕ
  pub high : List ℕ

abbrev pub columns : List ℕ → List ℕ → List ℕ → Columns
columns l w h = record { letter = l; low = w; high = h }

-- 8: the columns are equally long, and their length is in its range
abbrev pub lengths_legal : Columns → Bool
lengths_legal c =
    leb least_entries (length c.letter)
    && leb (length c.letter) most_entries
    && eqb (length c.low) (length c.letter)
    && eqb (length c.high) (length c.letter)

-- the entries of the columns
abbrev pub rows : Columns → Table
rows c = entries c.letter c.low c.high

-- the table that the columns hold
abbrev pub table_of : Columns → ℕ → Table
table_of c used = held c.letter c.low c.high used

-- the columns of a given length that hold a table
unfoldable pub columns_of : ℕ → Table → Columns
columns_of size t = record {
  letter = column_by letter_of size t;
  low = column_by low_of size t;
  high = column_by high_of size t;
}

-- 7: the used count is in its range, the table is sound for K, and past the used count all is zero
abbrev pub columns_sound : ℕ → Columns → ℕ → Bool
columns_sound letters c used = held_sound letters c.letter c.low c.high used

-- store a function, 6 where the entries used and those to be added exceed the columns
abbrev pub store_in : ℕ → Columns → (ℕ → ℕ) → Table → Answer Stored
store_in letters c f t = check (leb (length (store letters 0 f t).table) (length c.letter)) Full (answered (store letters 0 f t))

-- 8, 7, 9: what comes before every answer that reads a table
abbrev pub on_table : {A : Type 0} → ℕ → Columns → ℕ → (Table → Bool) → (Table → Answer A) → Answer A
on_table letters c used question next =
    check (lengths_legal c) Buffer
    (check (columns_sound letters c used) Unsound
    (check (leb letters most_letters && question (table_of c used)) Question
    (next (table_of c used))))

-- fresh: the three terminals, then zeros
unfoldable pub fresh_call : Columns → Answer Stored
fresh_call c = check (lengths_legal c) Buffer (answered (stored fresh 0))

-- smaller and sum
unfoldable pub apply_call : Operation → ℕ → Columns → ℕ → ℕ → ℕ → Answer Stored
apply_call o letters c used a b =
    on_table letters c used (λ t. ltb a used && ltb b used) (λ t. store_in letters c (applied letters t o a b) t)

unfoldable pub choose_call : ℕ → Columns → ℕ → ℕ → ℕ → ℕ → Answer Stored
choose_call letters c used selector a b =
    on_table letters c used
    (λ t. ltb selector used && ltb a used && ltb b used && two_valued letters t selector)
    (λ t. store_in letters c (chosen letters t selector a b) t)

unfoldable pub fix_call : ℕ → Columns → ℕ → ℕ → ℕ → ℕ → Answer Stored
fix_call letters c used e k bit =
    on_table letters c used (λ t. ltb e used && ltb k letters && leb bit 1) (λ t. store_in letters c (letter_fixed letters t e k bit) t)

unfoldable pub number_call : ℕ → Columns → ℕ → ℕ → ℕ → Answer ℕ
number_call letters c used e p =
    on_table letters c used (λ t. ltb e used && ltb p (patterns letters)) (λ t. answered (number_at letters t e p))

unfoldable pub count_call : ℕ → Columns → ℕ → ℕ → Answer ℕ
count_call letters c used e =
    on_table letters c used (λ t. ltb e used && two_valued letters t e) (λ t. answered (count letters t e))

-- What a call leaves: a refusal leaves columns, used count and entry as they were.
unfoldable pub columns_after : Columns → Answer Stored → Columns
columns_after c (refused why) = c
columns_after c (answered s) = columns_of (length c.letter) s.table

abbrev pub used_after : ℕ → Answer Stored → ℕ
used_after used (refused why) = used
used_after used (answered s) = length s.table

abbrev pub entry_after : ℕ → Answer Stored → ℕ
entry_after entry (refused why) = entry
entry_after entry (answered s) = s.entry

abbrev pub number_after : ℕ → Answer ℕ → ℕ
number_after number (refused why) = number
number_after number (answered n) = n
