-- What a call that starts or advances a run leaves, by its answer.
use Rattle.std.specs.Prelude.{◌≡◌, Result}
use Rattle.refusal.specs.declared.Refusal.{Refusal}
use Rattle.refusal.specs.Answer.{Answer, result_of}
use Rattle.diagram.specs.Call.{Columns}
use Rattle.rules.specs.Run.{Moment}
use Rattle.record.specs.declared.Run.{Run}
use Rattle.advance.specs.Went.{run_given, table_after, working_after}

-- the table and working before and after, the answer, and the result: a refusal leaves the run, by giving no other
pub record DoneAs (table table' working working' : Columns) (answer : Answer Moment) (result : Result Run Refusal) : Type 0 where
  pub result_is : result ≡ result_of run_given answer
  pub table_is : table' ≡ table_after table answer
  pub working_is : working' ≡ working_after working answer
