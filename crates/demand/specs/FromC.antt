-- The calls from C, each by the proposition that its contract states: sts_fresh, sts_start, sts_step, sts_advance, sts_run, sts_ask. The
-- cell is a file, the run record a column of 50 numbers.
use Rattle.std.specs.Prelude.{ℕ, ◌≡◌, List, [], ◌∷◌, length}
use Rattle.refusal.specs.Answer.{answered}
use Rattle.format.specs.File.{read_cell}
use Rattle.diagram.specs.Call.{fresh_call}
use Rattle.record.specs.declared.Run.{Run}
use Rattle.advance.specs.declared.Task.{Task}
use Rattle.advance.specs.declared.Task.TheVariants.{Start, Step, Until}
use Rattle.advance.specs.Task.{run_in, task_call}
use Rattle.editor.specs.Functions.{FreshCall}
use Rattle.editor.specs.Runs.{record_length, record_in, record_column, task_answer, TaskDone, AdvanceDone, ask_answer, AskDone}
use Rattle.commute.specs.Interface.{Held, Contract, Interface}

-- start, step and run up to a picosecond, on the column
abbrev pub on_column : List ℕ → Task → Contract (List ℕ)
on_column file task h h' working working' number =
    TaskDone h.table h'.table h.run h'.run working working' (task_answer file task h.table h.run working) number

-- the step in place, on a struct of the same numbers
abbrev pub on_struct : List ℕ → Contract (List ℕ)
on_struct file h h' working working' number =
    (r r' : Run) × (r ≡ record_in h.run) × (h'.run ≡ record_column r')
    × AdvanceDone h.table h'.table r r' working working' (task_call (read_cell file) Step h.table r working) number

-- the question, with two numbers lent for its answer
abbrev pub asked : List ℕ → Held (List ℕ) → ℕ → ℕ → ℕ → ℕ → ℕ → Type 0
asked file h n p number value change =
    (told : List ℕ) × (length told ≡ 2) × AskDone told (value ∷ change ∷ []) (ask_answer file h.table h.run n p told) number

abbrev pub from_c : Interface (List ℕ) (List ℕ)
from_c = record {
  cell = read_cell;
  stated = λ c column. run_in (answered c) (record_in column);
  Sized = λ cell column. length column ≡ record_length cell;
  Fresh = λ before after number. FreshCall before after (fresh_call before) number;
  Start = λ file used. on_column file (Start used);
  Step = λ file. on_column file Step;
  InPlace = on_struct;
  UpTo = λ file until. on_column file (Until until);
  Ask = asked;
}
