-- The calls by value keep the laws of an interface.
use Rattle.std.proofs.Common.{Result}
use mathlib.Core.Path.{◌≡◌, refl, sym, ◌∙◌, ap, subst}
use Prim.Native.Nat.{ℕ}
use Rattle.refusal.specs.declared.Refusal.{Refusal}
use Rattle.refusal.specs.Number.{Reply, reply_number}
use Rattle.refusal.specs.Answer.{Answer, refused, answered, answer_number, reply_of, result_of}
use Rattle.refusal.proofs.Answer.{reply_number_lem}
use Rattle.format.specs.Circuit.{Circuit}
use Rattle.format.specs.Legal.{check_circuit}
use Rattle.format.proofs.Check.{check_same}
use Rattle.cell.specs.declared.Cell.{Cell}
use Rattle.cell.specs.Value.{circuit_of}
use Rattle.diagram.specs.Call.{Columns, fresh_call}
use Rattle.rules.specs.Run.{Moment}
use Rattle.rules.specs.Call.{Wire, ask_call}
use Rattle.record.specs.declared.Run.{Run}
use Rattle.record.specs.Record.{record_of}
use Rattle.record.proofs.Record.{run_of_record}
use Rattle.advance.specs.declared.Task.{Task}
use Rattle.advance.specs.declared.Task.TheVariants.{Start, Step, Until}
use Rattle.advance.specs.Task.{run_in, task_call}
use Rattle.advance.specs.Went.{run_given, run_after, table_after, working_after}
use Rattle.run.specs.Asked.{wire_given}
use Rattle.record.specs.declared.Wire as given
use Rattle.editor.specs.Functions.{result_number, after_reply}
use Rattle.editor.proofs.Handed.{result_number_lem}
use Rattle.commute.specs.Interface.{Held}
use Rattle.commute.specs.Lists.{Call, step, in_place, up_to, Made}
use Rattle.commute.proofs.Lawful.{answer_of, left, Went, Asked, Lawful}
use Rattle.demand.specs.ByValue.{on_value, asked_by_value, by_value}

-- a reply's number is the answer's
number_of : {A : Type 0} (answer : Answer A) (reply : Reply) (number : ℕ) → number ≡ reply_number reply → reply ≡ reply_of answer → number ≡ answer_number answer
number_of answer reply number e e' = e ∙ ap reply_number e' ∙ reply_number_lem answer

-- and so is a result's
result_number_of : {A B : Type 0} (f : A → B) (answer : Answer A) (result : Result B Refusal) (number : ℕ) → number ≡ result_number result → result ≡ result_of f answer → number ≡ answer_number answer
result_number_of f answer result number e e' = e ∙ ap {B = ℕ} result_number e' ∙ result_number_lem f answer

-- with a refusal the run is the old one
run_kept : (r : Run) (answer : Answer Moment) → after_reply r (result_of run_given answer) (λ (x : Run). x) ≡ run_after r answer
run_kept r (refused why) = refl
run_kept r (answered m) = refl

-- columns and record after an answer, as one
held_after : (h h' : Held Run) (answer : Answer Moment) → h'.table ≡ table_after h.table answer → h'.run ≡ run_after h.run answer → h' ≡ left record_of h answer
held_after h h' (refused why) e e' = λ i. record { table = e i; run = e' i }
held_after h h' (answered m) e e' = λ i. record { table = e i; run = e' i }

-- a task
task_went : (v : Cell) (task : Task) (h h' : Held Run) (working working' : Columns) (number : ℕ) → on_value v task h h' working working' number
    → Went record_of (task_call (check_circuit (circuit_of v)) task h.table h.run working) h h' number
task_went v task h h' working working' number (result, e, kept, done) =
    let a : Answer Moment = task_call (check_circuit (circuit_of v)) task h.table h.run working in
    let run : h'.run ≡ run_after h.run a = kept ∙ ap (λ (x : Result Run Refusal). after_reply h.run x (λ (y : Run). y)) done.result_is ∙ run_kept h.run a in
    record { number_is = result_number_of run_given a result number e done.result_is; held_is = held_after h h' a done.table_is run }

module _ (v : Cell) (c : Circuit) (cell : check_circuit (circuit_of v) ≡ answered c) where
  -- the cell in place of its check
  with_cell_lem : (task : Task) (h h' : Held Run) (working : Columns) (number : ℕ) → Went record_of (task_call (check_circuit (circuit_of v)) task h.table h.run working) h h' number
      → Went record_of (task_call (answered c) task h.table h.run working) h h' number
  with_cell_lem task h h' working number = subst (λ (x : Answer Circuit). Went record_of (task_call x task h.table h.run working) h h' number) cell

  -- each call of a list
  made_went : (call : Call) (h h' : Held Run) (number : ℕ) → Made by_value v call h h' number → Went record_of (answer_of c h.table (run_in (answered c) h.run) call) h h' number
  made_went (step working) h h' number (working', done) = with_cell_lem Step h h' working number (task_went v Step h h' working working' number done)
  made_went (in_place working) h h' number (working', done) = with_cell_lem Step h h' working number (task_went v Step h h' working working' number done)
  made_went (up_to until working) h h' number (working', done) = with_cell_lem (Until until) h h' working number (task_went v (Until until) h h' working working' number done)

  -- a run up to a picosecond can be made
  run_made : (until : ℕ) (h h' : Held Run) (working : Columns) (number : ℕ) → Went record_of (task_call (answered c) (Until until) h.table h.run working) h h' number
      → (working' : Columns) × on_value v (Until until) h h' working working' number
  run_made until h h' working number went =
      let a : Answer Moment = task_call (check_circuit (circuit_of v)) (Until until) h.table h.run working in
      let e : task_call (answered c) (Until until) h.table h.run working ≡ a = ap (λ (x : Answer Circuit). task_call x (Until until) h.table h.run working) (sym cell) in
      let held : h' ≡ left record_of h a = went.held_is ∙ ap (left record_of h) e in (
        working_after working a,
        (
          result_of run_given a,
          went.number_is ∙ ap {B = ℕ} answer_number e ∙ sym (result_number_lem run_given a),
          ap (λ (x : Held Run). x.run) held ∙ run a,
          record {
            result_is = refl;
            table_is = ap (λ (x : Held Run). x.table) held ∙ table a;
            working_is = refl;
          },
        ),
      )
    where
      run : (a : Answer Moment) → (left record_of h a).run ≡ after_reply h.run (result_of run_given a) (λ (x : Run). x)
      run (refused why) = refl
      run (answered m) = refl

      table : (a : Answer Moment) → (left record_of h a).table ≡ table_after h.table a
      table (refused why) = refl
      table (answered m) = refl

  -- a question
  ask_went : (h : Held Run) (n p number value change : ℕ) → asked_by_value v h n p number value change
      → Asked (ask_call (answered c) h.table (run_in (answered c) h.run) n p) number value change
  ask_went h n p number value change (result, e, value_is, change_is, done) =
      let a : Answer Wire = ask_call (check_circuit (circuit_of v)) h.table (run_in (check_circuit (circuit_of v)) h.run) n p in
      let same : a ≡ ask_call (answered c) h.table (run_in (answered c) h.run) n p = ap (λ (x : Answer Circuit). ask_call x h.table (run_in x h.run) n p) cell in
      record {
        number_is = result_number_of wire_given a result number e done.result_is ∙ ap {B = ℕ} answer_number same;
        told = λ wire q.
            let is : result ≡ result_of wire_given (answered wire) = done.result_is ∙ ap (result_of wire_given) (same ∙ q) in
            (value_is ∙ ap (λ (x : Result given.Wire Refusal). after_reply 0 x (λ (w : given.Wire). w.value)) is, change_is ∙ ap (λ (x : Result given.Wire Refusal). after_reply 0 x (λ (w : given.Wire). w.change)) is);
      }

-- a cell that was checked is the one that was given, and legal
value_legal : (v : Cell) (c : Circuit) → check_circuit (circuit_of v) ≡ answered c → check_circuit c ≡ answered c
value_legal v c e = ap check_circuit (check_same e) ∙ e

pub by_value_lawful : Lawful by_value
by_value_lawful = record {
  stored = record_of;
  stored_sized = λ c r long. tt;
  stored_stated = λ c r long. run_of_record c r long.values long.changes;
  legal = value_legal;
  fresh = λ lent made number x. (number_of (fresh_call lent) x.0 number x.1 x.2, x.3);
  start_sized = λ v used h h' working working' done. tt;
  start = λ v used h h' working working' number sized done. task_went v (Start used) h h' working working' number done;
  made = λ v c cell call h h' number sized made. made_went v c cell call h h' number made;
  run = λ v c cell until h h' working number sized went. run_made v c cell until h h' working number went;
  ask = λ v c cell h n p number value change sized asked. ask_went v c cell h n p number value change asked;
}
