-- What is stored back of a step by value.
use Rattle.std.proofs.Common.{Result, Ok, Err}
use mathlib.Core.Path.{◌≡◌, refl, ap, ◌∙◌}
use Prim.Native.Nat.{ℕ}
use Rattle.refusal.specs.declared.Refusal.{Refusal}
use Rattle.refusal.specs.Number.{refusal_number}
use Rattle.refusal.specs.Answer.{Answer, refused, answered, answer_number, result_of}
use Rattle.diagram.specs.Call.{Columns}
use Rattle.rules.specs.Run.{Moment}
use Rattle.record.specs.declared.Run.{Run}
use Rattle.advance.specs.Went.{run_given, run_after}
use Rattle.run.specs.Done.{DoneAs}
use Rattle.editor.specs.Runs.{AdvanceDone}

given_number : (a : Answer Moment) {run : Run} → ◌≡◌ {A = Result Run Refusal} (Ok run) (result_of run_given a) → ◌≡◌ {A = ℕ} 0 (answer_number a)
given_number (refused why) e = absurd cc
given_number (answered m) e = refl

given_run : (a : Answer Moment) (r : Run) {run : Run} → ◌≡◌ {A = Result Run Refusal} (Ok run) (result_of run_given a) → run ≡ run_after r a
given_run (refused why) r e = absurd cc
given_run (answered m) r e = cc

why_number : (a : Answer Moment) {why : Refusal} → ◌≡◌ {A = Result Run Refusal} (Err why) (result_of run_given a) → refusal_number why ≡ answer_number a
why_number (refused other) {why} e = let z : why ≡ other = cc in ap {B = ℕ} refusal_number z
why_number (answered m) e = absurd cc

why_run : (a : Answer Moment) (r : Run) {why : Refusal} → ◌≡◌ {A = Result Run Refusal} (Err why) (result_of run_given a) → r ≡ run_after r a
why_run (refused why) r e = refl
why_run (answered m) r e = absurd cc

module _ {table table' working working' : Columns} {r : Run} {a : Answer Moment} where
  -- a step that was done
  pub advance_done : {run : Run} → DoneAs table table' working working' a (Ok run) → AdvanceDone table table' r run working working' a 0
  advance_done d = record { number_is = given_number a d.result_is; run_is = given_run a r d.result_is; table_is = d.table_is; working_is = d.working_is }

  -- a step that was refused
  pub advance_refused : {why : Refusal} {number : ℕ} → DoneAs table table' working working' a (Err why) → number ≡ refusal_number why → AdvanceDone table table' r r working working' a number
  advance_refused d n = record { number_is = n ∙ why_number a d.result_is; run_is = why_run a r d.result_is; table_is = d.table_is; working_is = d.working_is }
