-- The calls from C keep the laws of an interface.
use mathlib.Core.Path.{◌≡◌, refl, sym, ◌∙◌, ap, subst}
use mathlib.Core.Bool.{Bool}
use mathlib.Core.List.{List, [], ◌∷◌}
use Prim.Native.Nat.{ℕ}
use native.Mathlib.Omega.{arith}
use lib.ListN.{length, get_or}
use lib.Dec.{eqb}
use borrow.Author.Tests.{eq-eqb, eqb-true}
use Rattle.refusal.specs.declared.Refusal.TheVariants.{Buffer}
use Rattle.refusal.specs.Answer.{Answer, refused, answered, check, answer_number}
use Rattle.refusal.proofs.Answer.{check_passed}
use Rattle.lists.proofs.Cases.{and_both}
use Rattle.format.specs.Circuit.{Circuit}
use Rattle.format.specs.File.{read_cell}
use Rattle.format.proofs.Read.{read_checked}
use Rattle.diagram.specs.Call.{Columns}
use Rattle.rules.specs.Run as defined
use Rattle.rules.specs.Run.{Moment}
use Rattle.rules.specs.Call.{Wire, ask_call}
use Rattle.record.specs.Record.{record_of}
use Rattle.advance.specs.declared.Task.{Task}
use Rattle.advance.specs.declared.Task.TheVariants.{Start, Step, Until}
use Rattle.advance.specs.Task.{run_in, task_call}
use Rattle.advance.specs.Went.{run_after, table_after, working_after}
use Rattle.editor.specs.Runs.{record_length, record_in, record_column, task_answer, column_after, ask_answer, told_after}
use Rattle.editor.proofs.Column.{column_length}
use Rattle.commute.specs.Interface.{Held}
use Rattle.commute.specs.Lists.{Call, step, in_place, up_to, Made}
use Rattle.commute.proofs.Lawful.{answer_of, left, Went, Asked, Lawful}
use Rattle.commute.proofs.Keeps.{number_answered}
use Rattle.demand.specs.FromC.{on_column, on_struct, asked, from_c}
use Rattle.demand.proofs.Column.{column_run, column_back}

-- the column of a run
abbrev pub stored : defined.Run → List ℕ
stored r = record_column (record_of r)

-- columns and record after an answer, as one
held_after : (h h' : Held (List ℕ)) (answer : Answer Moment) → h'.table ≡ table_after h.table answer → h'.run ≡ column_after h.run answer → h' ≡ left stored h answer
held_after h h' (refused why) e e' = λ i. record { table = e i; run = e' i }
held_after h h' (answered m) e e' = λ i. record { table = e i; run = e' i }

-- the answer with a record of the right length
task_sized : (file : List ℕ) (task : Task) (table : Columns) (column : List ℕ) (working : Columns) → length column ≡ record_length (read_cell file)
    → task_answer file task table column working ≡ task_call (read_cell file) task table (record_in column) working
unfolding task_answer
task_sized file task table column working long =
    ap (λ (b : Bool). check b Buffer (task_call (read_cell file) task table (record_in column) working)) (eq-eqb (length column) (record_length (read_cell file)) long)

-- an answered task had one
task_long : (file : List ℕ) (task : Task) (table : Columns) (column : List ℕ) (working : Columns) → answer_number (task_answer file task table column working) ≡ 0 → length column ≡ record_length (read_cell file)
unfolding task_answer
task_long file task table column working e =
    let next : Answer Moment = task_call (read_cell file) task table (record_in column) working in
    let a = number_answered (check (eqb (length column) (record_length (read_cell file))) Buffer next) e in
    eqb-true (length column) (record_length (read_cell file)) (check_passed (eqb (length column) (record_length (read_cell file))) Buffer next a.0 a.1).0

-- a task on the column
task_went : (file : List ℕ) (task : Task) (h h' : Held (List ℕ)) (working working' : Columns) (number : ℕ) → length h.run ≡ record_length (read_cell file) → on_column file task h h' working working' number
    → Went stored (task_call (read_cell file) task h.table (record_in h.run) working) h h' number
task_went file task h h' working working' number long done =
    let e = task_sized file task h.table h.run working long in
    record {
      number_is = done.number_is ∙ ap {B = ℕ} answer_number e;
      held_is = held_after h h' (task_answer file task h.table h.run working) done.table_is done.column_is ∙ ap (left stored h) e;
    }

-- a step in place is the step on the same numbers
pub in_place_went : (file : List ℕ) (h h' : Held (List ℕ)) (working working' : Columns) (number : ℕ) → length h.run ≡ record_length (read_cell file) → on_struct file h h' working working' number
    → Went stored (task_call (read_cell file) Step h.table (record_in h.run) working) h h' number
in_place_went file h h' working working' number long (r, r', e, e', done) =
    let a : Answer Moment = task_call (read_cell file) Step h.table (record_in h.run) working in
    let same : task_call (read_cell file) Step h.table r working ≡ a = ap (λ (x : _). task_call (read_cell file) Step h.table x working) e in
    record {
      number_is = done.number_is ∙ ap {B = ℕ} answer_number same;
      held_is = held_after h h' a (done.table_is ∙ ap (table_after h.table) same) (e' ∙ ap record_column done.run_is ∙ column a r e same);
    }
  where
    column : (b : Answer Moment) (r : _) → r ≡ record_in h.run → task_call (read_cell file) Step h.table r working ≡ b
        → record_column (run_after r (task_call (read_cell file) Step h.table r working)) ≡ column_after h.run b
    column (refused why) r e q = ap (λ (x : Answer Moment). record_column (run_after r x)) q ∙ ap record_column e ∙ column_back h.run long
    column (answered m) r e q = ap (λ (x : Answer Moment). record_column (run_after r x)) q

module _ (file : List ℕ) (c : Circuit) (read : read_cell file ≡ answered c) where
  -- the file's cell in place of its reading
  with_cell_lem : (task : Task) (h h' : Held (List ℕ)) (working : Columns) (number : ℕ) → Went stored (task_call (read_cell file) task h.table (record_in h.run) working) h h' number
      → Went stored (task_call (answered c) task h.table (record_in h.run) working) h h' number
  with_cell_lem task h h' working number = subst (λ (cell : Answer Circuit). Went stored (task_call cell task h.table (record_in h.run) working) h h' number) read

  -- each call of a list
  made_went : (call : Call) (h h' : Held (List ℕ)) (number : ℕ) → length h.run ≡ record_length (answered c) → Made from_c file call h h' number
      → Went stored (answer_of c h.table (run_in (answered c) (record_in h.run)) call) h h' number
  made_went (step working) h h' number long (working', done) = with_cell_lem Step h h' working number (task_went file Step h h' working working' number long done)
  made_went (in_place working) h h' number long (working', done) = with_cell_lem Step h h' working number (in_place_went file h h' working working' number long done)
  made_went (up_to until working) h h' number long (working', done) = with_cell_lem (Until until) h h' working number (task_went file (Until until) h h' working working' number long done)

  -- a run up to a picosecond can be made
  run_made : (until : ℕ) (h h' : Held (List ℕ)) (working : Columns) (number : ℕ) → length h.run ≡ record_length (answered c)
      → Went stored (task_call (answered c) (Until until) h.table (record_in h.run) working) h h' number
      → (working' : Columns) × on_column file (Until until) h h' working working' number
  run_made until h h' working number long went =
      let a : Answer Moment = task_answer file (Until until) h.table h.run working in
      let e : task_call (answered c) (Until until) h.table (record_in h.run) working ≡ a =
      ap (λ (x : Answer Circuit). task_call x (Until until) h.table (record_in h.run) working) (sym read) ∙ sym (task_sized file (Until until) h.table h.run working long) in
      let held : h' ≡ left stored h a = went.held_is ∙ ap (left stored h) e in (
        working_after working a,
        record {
          number_is = went.number_is ∙ ap {B = ℕ} answer_number e;
          column_is = ap (λ (x : Held (List ℕ)). x.run) held ∙ column a;
          table_is = ap (λ (x : Held (List ℕ)). x.table) held ∙ table a;
          working_is = refl;
        },
      )
    where
      column : (a : Answer Moment) → (left stored h a).run ≡ column_after h.run a
      column (refused why) = refl
      column (answered m) = refl

      table : (a : Answer Moment) → (left stored h a).table ≡ table_after h.table a
      table (refused why) = refl
      table (answered m) = refl

  -- a question
  ask_went : (h : Held (List ℕ)) (n p number value change : ℕ) → length h.run ≡ record_length (answered c) → asked file h n p number value change
      → Asked (ask_call (answered c) h.table (run_in (answered c) (record_in h.run)) n p) number value change
  unfolding ask_answer
  ask_went h n p number value change long (told, two, done) =
      let e : ask_answer file h.table h.run n p told ≡ ask_call (answered c) h.table (run_in (answered c) (record_in h.run)) n p =
      ap (λ (b : Bool). check b Buffer (ask_call (read_cell file) h.table (run_in (read_cell file) (record_in h.run)) n p))
      (and_both (eqb (length h.run) (record_length (answered c))) (eqb (length told) 2) (eq-eqb (length h.run) (record_length (answered c)) long) (eq-eqb (length told) 2 two))
      ∙ ap (λ (cell : Answer Circuit). ask_call cell h.table (run_in cell (record_in h.run)) n p) read in
      record {
        number_is = done.number_is ∙ ap {B = ℕ} answer_number e;
        told = λ wire q. both (done.told_is ∙ ap (told_after told) (e ∙ q));
      }
    where
      both : {wire : Wire} → value ∷ change ∷ [] ≡ wire.value ∷ wire.change ∷ [] → (value ≡ wire.value) × (change ≡ wire.change)
      both q = (ap (λ (l : List ℕ). get_or l 0 0) q, ap (λ (l : List ℕ). get_or l 1 0) q)

pub from_c_lawful : Lawful from_c
from_c_lawful = record {
  stored = stored;
  stored_sized = λ c r long. column_length r (omega (arith, long.few, long.values)) (omega (arith, long.few, long.changes));
  stored_stated = λ c r long. column_run c long.few r long.values long.changes;
  legal = λ file c read. read_checked file c read;
  fresh = λ lent made number x. (x.number_is, x.columns_are);
  start_sized = λ file used h h' working working' done. task_long file (Start used) h.table h.run working (sym done.number_is);
  start = λ file used h h' working working' number long done. task_went file (Start used) h h' working working' number long done;
  made = λ file c read call h h' number long made. made_went file c read call h h' number long made;
  run = λ file c read until h h' working number long went. run_made file c read until h h' working number long went;
  ask = λ file c read h n p number value change long asked. ask_went file c read h n p number value change long asked;
}
