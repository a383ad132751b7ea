-- The calls on a run: the record is a column of 50 numbers, the answer of a question a column of 2.
use Rattle.std.specs.Prelude.{◌≡◌, List, [], ◌∷◌, ◌++◌, ◌&&◌, ℕ, length, get_or, take, drop, eqb}
use Rattle.refusal.specs.declared.Refusal.TheVariants.{Buffer}
use Rattle.refusal.specs.Answer.{Answer, refused, answered, check, answer_number}
use Rattle.format.specs.Circuit.{Circuit}
use Rattle.format.specs.Legal.{most_nodes}
use Rattle.format.specs.File.{read_cell}
use Rattle.diagram.specs.Call.{Columns}
use Rattle.rules.specs.Run.{Moment}
use Rattle.rules.specs.Call.{Wire, ask_call}
use Rattle.record.specs.declared.Run.{Run}
use Rattle.advance.specs.declared.Task.{Task}
use Rattle.advance.specs.Task.{run_in, task_call}
use Rattle.advance.specs.Went.{run_after, table_after, working_after}

-- how long the record of a run is, by what reading the cell answers: 50 for every cell
abbrev pub record_length : Answer Circuit → ℕ
record_length cell = 50

-- the places: the time, the used count, at n the value's entry of node n (2 to 25), at 24 + n the entry of its next change
abbrev pub time_place : ℕ
time_place = 0

abbrev pub used_place : ℕ
used_place = 1

abbrev pub values_place : ℕ
values_place = 2

abbrev pub changes_place : ℕ
changes_place = 26

-- the record in a column, and the column of a record
abbrev pub record_in : List ℕ → Run
record_in column = record {
  time = get_or column time_place 0;
  used = get_or column used_place 0;
  values = take most_nodes (drop values_place column);
  changes = take most_nodes (drop changes_place column);
}

abbrev pub record_column : Run → List ℕ
record_column r = r.time ∷ r.used ∷ r.values ++ r.changes

-- start, step and run up to a picosecond: 8 where the record has another length, then the answer of the task on the file's cell
unfoldable pub task_answer : List ℕ → Task → Columns → List ℕ → Columns → Answer Moment
task_answer file task table column working =
    check (eqb (length column) (record_length (read_cell file))) Buffer (task_call (read_cell file) task table (record_in column) working)

-- a refusal leaves the column as it was; after an answer its places past the node records are zero
abbrev pub column_after : List ℕ → Answer Moment → List ℕ
column_after column (refused why) = column
column_after column (answered m) = record_column (run_after (record_in column) (answered m))

-- the number, and each lent column afterwards
pub record TaskDone (table table' : Columns) (column column' : List ℕ) (working working' : Columns) (answer : Answer Moment) (number : ℕ) : Type 0 where
  pub number_is : number ≡ answer_number answer
  pub column_is : column' ≡ column_after column answer
  pub table_is : table' ≡ table_after table answer
  pub working_is : working' ≡ working_after working answer

-- a step on a record behind a reference: the number, the record, and each lent column afterwards
pub record AdvanceDone (table table' : Columns) (r r' : Run) (working working' : Columns) (answer : Answer Moment) (number : ℕ) : Type 0 where
  pub number_is : number ≡ answer_number answer
  pub run_is : r' ≡ run_after r answer
  pub table_is : table' ≡ table_after table answer
  pub working_is : working' ≡ working_after working answer

-- the run question: 8 where the record or the answer has another length
unfoldable pub ask_answer : List ℕ → Columns → List ℕ → ℕ → ℕ → List ℕ → Answer Wire
ask_answer file table column n p told =
    check (eqb (length column) (record_length (read_cell file)) && eqb (length told) 2) Buffer (ask_call (read_cell file) table (run_in (read_cell file) (record_in column)) n p)

-- value and next change; a refusal leaves the numbers as they were
abbrev pub told_after : List ℕ → Answer Wire → List ℕ
told_after told (refused why) = told
told_after told (answered w) = w.value ∷ w.change ∷ []

pub record AskDone (told told' : List ℕ) (answer : Answer Wire) (number : ℕ) : Type 0 where
  pub number_is : number ≡ answer_number answer
  pub told_is : told' ≡ told_after told answer
