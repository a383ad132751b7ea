-- What a call that starts or steps a run leaves beside the lines that it lists.
use Rattle.std.specs.Prelude.{◌≡◌, List, ℕ, ◌≤◌, length, Result}
use Rattle.refusal.specs.declared.Refusal.{Refusal}
use Rattle.refusal.specs.Answer.{Answer, result_of}
use Rattle.diagram.specs.Call.{Columns}
use Rattle.rules.specs.Run.{Moment}
use Rattle.record.specs.declared.Run.{Run}
use Rattle.advance.specs.Went.{run_given, table_after, working_after}
use Rattle.text.specs.Written.{Wrote}

-- the table and working before and after, the answer and its lines, the buffer before and after, where the lines were to begin; where they
-- end, and the record afterwards or the refusal
pub record ListedAs (table table' working working' : Columns) (answer : Answer Moment) (lines : Answer Moment → List ℕ)
    (out out' : List ℕ) (at end : ℕ) (run : Result Run Refusal) : Type 0 where
  pub run_is : run ≡ result_of run_given answer
  pub table_is : table' ≡ table_after table answer
  pub working_is : working' ≡ working_after working answer
  pub wrote : Wrote out out' at (lines answer) end
  pub within : end ≤ length out
