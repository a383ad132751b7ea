-- What a start, a step or a run of steps leaves in lent columns, by its answer.
use Rattle.std.specs.Prelude.{◌≡◌, List, ℕ, length, Result, IfOk}
use Rattle.refusal.specs.declared.Refusal.{Refusal}
use Rattle.refusal.specs.Answer.{Answer, answered, result_of}
use Rattle.diagram.specs.Table.{Table}
use Rattle.rules.specs.Run.{Moment}
use Rattle.table.specs.Holds.{Holds, Kept}
use Rattle.record.specs.declared.Run.{Run}
use Rattle.record.specs.Record.{record_of}

-- the moment that it was answered with, in the columns and as a value
pub record Left (answer : Answer Moment) (l w h ix : List ℕ) (r : Run) : Type 0 where
  pub moment : Moment
  pub is : answer ≡ answered moment
  pub run_is : r ≡ record_of moment.run
  pub holds : Holds l w h ix moment.table r.used

-- in the table t: the result, and what it left where that is no refusal
pub record Reached (t : Table) (answer : Answer Moment) (l w h ix : List ℕ) (result : Result Run Refusal) : Type 0 where
  pub result_is : result ≡ result_of (λ (moment : Moment). record_of moment.run) answer
  pub fits : IfOk result (Left answer l w h ix)
  pub kept : Kept l w h (length l) t
