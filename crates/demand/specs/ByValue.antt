-- The calls by value, each by the proposition that its contract states: table::fresh, run::go::on_cell, run::ask::ask_cell. The cell is a
-- value of its type, and so is the run record; there is no step in place beside the step.
use Rattle.std.specs.Prelude.{ℕ, ◌≡◌, Result}
use Rattle.refusal.specs.declared.Refusal.{Refusal}
use Rattle.refusal.specs.Number.{Reply, reply_number}
use Rattle.refusal.specs.Answer.{answered, reply_of}
use Rattle.format.specs.Legal.{check_circuit}
use Rattle.cell.specs.declared.Cell.{Cell}
use Rattle.cell.specs.Value.{circuit_of}
use Rattle.diagram.specs.Call.{Columns, fresh_call, columns_after}
use Rattle.rules.specs.Call.{ask_call}
use Rattle.record.specs.declared.Run.{Run}
use Rattle.record.specs.declared.Wire as given
use Rattle.advance.specs.declared.Task.{Task}
use Rattle.advance.specs.declared.Task.TheVariants.{Start, Step, Until}
use Rattle.advance.specs.Task.{run_in, task_call}
use Rattle.run.specs.Done.{DoneAs}
use Rattle.run.specs.Asked.{AskedAs}
use Rattle.editor.specs.Functions.{result_number, after_reply}
use Rattle.commute.specs.Interface.{Held, Contract, Interface}

-- start, step and run up to a picosecond; the number is the result's, and with a refusal the run is the old one
abbrev pub on_value : Cell → Task → Contract Run
on_value cell task h h' working working' number =
    (result : Result Run Refusal) × (number ≡ result_number result) × (h'.run ≡ after_reply h.run result (λ (r : Run). r))
    × DoneAs h.table h'.table working working' (task_call (check_circuit (circuit_of cell)) task h.table h.run working) result

abbrev pub fresh_by_value : Columns → Columns → ℕ → Type 0
fresh_by_value before after number =
    (reply : Reply) × (number ≡ reply_number reply) × (reply ≡ reply_of (fresh_call before)) × (after ≡ columns_after before (fresh_call before))

abbrev pub asked_by_value : Cell → Held Run → ℕ → ℕ → ℕ → ℕ → ℕ → Type 0
asked_by_value cell h n p number value change =
    (result : Result given.Wire Refusal) × (number ≡ result_number result)
    × (value ≡ after_reply 0 result (λ (w : given.Wire). w.value)) × (change ≡ after_reply 0 result (λ (w : given.Wire). w.change))
    × AskedAs (ask_call (check_circuit (circuit_of cell)) h.table (run_in (check_circuit (circuit_of cell)) h.run) n p) result

-- a record by value has its length by its type
abbrev pub by_value : Interface Cell Run
by_value = record {
  cell = λ v. check_circuit (circuit_of v);
  stated = λ c r. run_in (answered c) r;
  Sized = λ cell r. Unit {0};
  Fresh = fresh_by_value;
  Start = λ v used. on_value v (Start used);
  Step = λ v. on_value v Step;
  InPlace = λ v. on_value v Step;
  UpTo = λ v until. on_value v (Until until);
  Ask = asked_by_value;
}
