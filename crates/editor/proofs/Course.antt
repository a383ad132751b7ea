-- What is handed over of a run, by the answers that the definitions give.
use Rattle.std.proofs.Common.{Result}
use mathlib.Core.Path.{◌≡◌, refl, ◌∙◌, ap}
use mathlib.Core.List.{List, [], ◌∷◌}
use Prim.Native.Nat.{ℕ}
use lib.ListN.{length, set}
use native.Mathlib.Omega.{arith}
use borrow.Author.Tests.{eq-eqb, ne_eqb}
use Rattle.refusal.specs.declared.Refusal.TheVariants.{Buffer}
use Rattle.refusal.specs.declared.Refusal.{Refusal}
use Rattle.refusal.specs.Number.{refusal_number}
use Rattle.refusal.specs.Answer.{Answer, refused, answered, result_of}
use Rattle.format.specs.File.{read_cell}
use Rattle.diagram.specs.Call.{Columns}
use Rattle.rules.specs.Run.{Moment}
use Rattle.rules.specs.Call.{Wire, ask_call}
use Rattle.record.specs.declared.Run.{Run}
use Rattle.advance.specs.declared.Task.{Task}
use Rattle.advance.specs.Task.{run_in, task_call}
use Rattle.advance.specs.Went.{run_given}
use Rattle.run.specs.Done.{DoneAs}
use Rattle.run.specs.Asked.{AskedAs, wire_given}
use Rattle.editor.specs.Runs.{record_in, task_answer, column_after, TaskDone, ask_answer, told_after, AskDone}
use Rattle.editor.specs.Replied.{column_after_reply, told_after_reply}
use Rattle.editor.specs.Functions.{result_number}
use Rattle.editor.proofs.Handed.{result_number_lem}
use Rattle.record.specs.declared.Wire as given

module _ (file : List ℕ) (task : Task) (table : Columns) (column : List ℕ) (working : Columns) where
  -- a record of another length is refused 8
  pub other_length : (length column ≡ 50 → ⊥) → task_answer file task table column working ≡ refused Buffer
  unfolding task_answer
  other_length h = rw (ne_eqb (length column) 50 h)

  -- else the answer is that of the task on the file's cell
  pub fifty : (r : Run) → length column ≡ 50 → r ≡ record_in column → task_answer file task table column working ≡ task_call (read_cell file) task table r working
  unfolding task_answer
  fifty r h e = rw (eq-eqb (length column) 50 h, e)

-- a refusal leaves the column, an answer's record is written
column_handed : (a : Answer Moment) (column : List ℕ) → column_after_reply column (result_of run_given a) ≡ column_after column a
column_handed (refused why) column = refl
column_handed (answered m) column = refl

-- after 8 nothing is touched
pub task_buffer : {table : Columns} {column : List ℕ} {working : Columns} {a : Answer Moment} {number : ℕ}
    → a ≡ refused Buffer → number ≡ refusal_number Buffer → TaskDone table table column column working working a number
task_buffer e n = rw e (record { number_is = n; column_is = refl; table_is = refl; working_is = refl })

-- a task that was done
pub task_done : {table table' : Columns} {column : List ℕ} {working working' : Columns} {a b : Answer Moment} {result : Result Run Refusal} (column' : List ℕ) {number : ℕ}
    → a ≡ b → DoneAs table table' working working' b result → (number ≡ result_number result) × (column' ≡ column_after_reply column result)
    → TaskDone table table' column column' working working' a number
task_done {column = column} {b = b} column' e d g = rw e (record {
  number_is = g.0 ∙ ap {B = ℕ} result_number d.result_is ∙ result_number_lem run_given b;
  column_is = g.1 ∙ ap (column_after_reply column) d.result_is ∙ column_handed b column;
  table_is = d.table_is;
  working_is = d.working_is;
})

module _ (file : List ℕ) (table : Columns) (column : List ℕ) (n p : ℕ) (told : List ℕ) where
  -- a record of another length is refused 8
  pub ask_other_length : (length column ≡ 50 → ⊥) → ask_answer file table column n p told ≡ refused Buffer
  unfolding ask_answer
  ask_other_length h = rw (ne_eqb (length column) 50 h)

  -- so is an answer of another length
  pub ask_other_told : length column ≡ 50 → (length told ≡ 2 → ⊥) → ask_answer file table column n p told ≡ refused Buffer
  unfolding ask_answer
  ask_other_told h h' = rw (eq-eqb (length column) 50 h, ne_eqb (length told) 2 h')

  -- else the answer is that of the question
  pub ask_lengths : (r : Run) → length column ≡ 50 → length told ≡ 2 → r ≡ record_in column
      → ask_answer file table column n p told ≡ ask_call (read_cell file) table (run_in (read_cell file) r) n p
  unfolding ask_answer
  ask_lengths r h h' e = rw (eq-eqb (length column) 50 h, eq-eqb (length told) 2 h', e)

told_handed : (a : Answer Wire) (told : List ℕ) → told_after_reply told (result_of wire_given a) ≡ told_after told a
told_handed (refused why) told = refl
told_handed (answered w) told = refl

pub ask_buffer : {told : List ℕ} {a : Answer Wire} {number : ℕ} → a ≡ refused Buffer → number ≡ refusal_number Buffer → AskDone told told a number
ask_buffer e n = rw e (record { number_is = n; told_is = refl })

-- a question that was asked
pub ask_done : {told : List ℕ} {a b : Answer Wire} {result : Result given.Wire Refusal} (told' : List ℕ) {number : ℕ}
    → a ≡ b → AskedAs b result → (number ≡ result_number result) × (told' ≡ told_after_reply told result)
    → AskDone told told' a number
ask_done {told = told} {b = b} told' e s g = rw e (record {
  number_is = g.0 ∙ ap {B = ℕ} result_number s.result_is ∙ result_number_lem wire_given b;
  told_is = g.1 ∙ ap (told_after_reply told) s.result_is ∙ told_handed b told;
})

-- two numbers written over two
pub two : (l : List ℕ) (a b : ℕ) → length l ≡ 2 → set (set l 0 a) 1 b ≡ a ∷ b ∷ []
two [] a b h = absurd (omega arith)
two (x ∷ []) a b h = absurd (omega arith)
two (x ∷ y ∷ []) a b h = refl
two (x ∷ y ∷ z ∷ l) a b h = absurd (omega arith)
