-- What start, step and run up to a picosecond leave, at each of their ends.
use Rattle.std.proofs.Common.{Result, Err}
use mathlib.Core.Path.{◌≡◌, refl, sym, ◌∙◌}
use mathlib.Core.List.{List}
use mathlib.Core.Bool.{Bool, true, false, ◌&&◌, cond}
use Prim.Native.Nat.{ℕ, zero, suc}
use native.Mathlib.Nat.{sub-zero}
use native.Mathlib.Omega.{arith}
use lib.ListN.{length, replicate, length-replicate}
use lib.Dec.{leb, ltb, eqb}
use Rattle.refusal.specs.declared.Refusal.{Refusal}
use Rattle.refusal.specs.declared.Refusal.TheVariants.{Buffer, Unsound, Finished, Ceiling, Full}
use Rattle.refusal.specs.Number.{refusal_number}
use Rattle.refusal.specs.Answer.{Answer, refused, answered}
use Rattle.lists.proofs.Cases.{and_left, and_right}
use Rattle.format.specs.Circuit.{Circuit}
use Rattle.cell.specs.declared.Cell.{Cell}
use Rattle.cell.specs.Value.{cell_by}
use Rattle.diagram.specs.Table.{never}
use Rattle.diagram.specs.Call.{columns, Columns, lengths_legal, columns_sound, table_of}
use Rattle.diagram.proofs.Columns.{columns_path}
use Rattle.rules.specs.Run.{Moment, start_moment, start_within, time_after, step_moment, step_within, fitting, continued, run_moment}
use Rattle.rules.specs.Call.{least_working, working_legal, moment_given, sound_together, start_call, step_call, run_call}
use Rattle.rules.proofs.Admitted.{admitting}
use Rattle.table.specs.Holds.{Lent, zero_from}
use Rattle.table.proofs.Entering.{lent}
use Rattle.record.specs.declared.Run.{Run}
use Rattle.advance.specs.declared.Task.{Task}
use Rattle.advance.specs.declared.Task.TheVariants.{Start, Step, Until}
use Rattle.advance.specs.Task.{run_in, task_call}
use Rattle.advance.specs.Went.{zeroed, working_after, WentAs}
use Rattle.run.specs.Done.{DoneAs}
use Rattle.run.specs.Replied.{Replied}
use Rattle.run.proofs.Cells.{Other, answered_other, check_other}

-- working of legal lengths
working_lengths : (w : Columns) → working_legal w ≡ true → lengths_legal w ≡ true
working_lengths w e = and_left (lengths_legal w) (leb least_working (length w.letter)) e

-- with the index that is lent beside it
pub working_lent : (l w h : List ℕ) → working_legal (columns l w h) ≡ true → Lent l w h (replicate 32768 0)
working_lent l w h e = lent {l = l} {w = w} {h = h} {ix = replicate 32768 0} (working_lengths (columns l w h) e) (omega (arith, length-replicate {A = ℕ} 32768 0))

-- table and working of legal lengths
pub both_legal : {x : Bool} (table working : Columns) → x ≡ (lengths_legal table && working_legal working) → x ≡ true → (lengths_legal table ≡ true) × (working_legal working ≡ true)
both_legal table working is e = (and_left (lengths_legal table) (working_legal working) (sym is ∙ e), and_right (lengths_legal table) (working_legal working) (sym is ∙ e))

-- columns cleared from their start on, of the lengths of others
zero_all : (n : ℕ) (l : List ℕ) → length l ≡ n → zero_from 0 l ≡ replicate n 0
zero_all n l e = rw (sub-zero (length l), e)

pub zeroed_all : (l w h l1 w1 h1 : List ℕ) {l2 w2 h2 : List ℕ} → length l1 ≡ length l → length w1 ≡ length w → length h1 ≡ length h
    → (l2 ≡ zero_from 0 l1) × (w2 ≡ zero_from 0 w1) × (h2 ≡ zero_from 0 h1) → columns l2 w2 h2 ≡ zeroed (columns l w h)
zeroed_all l w h l1 w1 h1 p q s z =
    columns_path _ _ (z.0 ∙ zero_all (length l) l1 p) (z.1 ∙ zero_all (length w) w1 q) (z.2 ∙ zero_all (length h) h1 s)

-- lengths that are not legal are refused first
task_buffer : (cell : Answer Circuit) (task : Task) (table : Columns) (r : Run) (working : Columns) → (lengths_legal table && working_legal working) ≡ false
    → task_call cell task table r working ≡ refused Buffer
unfolding start_call step_call run_call
task_buffer cell (Start used) table r working e = rw e
task_buffer cell Step table r working e = rw e
task_buffer cell (Until time) table r working e = rw e

-- then the cell
task_refused : (why : Refusal) (task : Task) (table : Columns) (r : Run) (working : Columns) → (lengths_legal table && working_legal working) ≡ true
    → task_call (refused why) task table r working ≡ refused why
unfolding start_call step_call run_call
task_refused why (Start used) table r working e = rw e
task_refused why Step table r working e = rw e
task_refused why (Until time) table r working e = rw e

-- what follows is never refused 8
fitting_other : (size : ℕ) (m : Moment) → Other (fitting size m)
fitting_other size m = check_other (leb (length m.table) size) Full (answered m) refl (answered_other m)

step_other : (c : Circuit) (size : ℕ) (m : Moment) → Other (admitting c size m)
step_other c size m = check_other (step_within c m) Ceiling (fitting size (step_moment c m)) refl (fitting_other size (step_moment c m))

cond_other : {A : Type 0} (t : Bool) (a b : Answer A) → Other a → Other b → Other (cond t a b)
cond_other true a b p q = p
cond_other false a b p q = q

continued_other : (a : Answer Moment) (next : Moment → Answer Moment) → Other a → ((m : Moment) → Other (next m)) → Other (continued a next)
continued_other (refused why) next o n = o
continued_other (answered m) next o n = n m

run_other : (steps : ℕ) (c : Circuit) (until size : ℕ) (m : Moment) → Other (run_moment steps c until size m)
unfolding run_moment
run_other zero c until size m = answered_other m
run_other (suc steps) c until size m =
    cond_other (ltb (time_after c m) never && leb (time_after c m) until) _ _
    (continued_other (admitting c size m) _ (step_other c size m) (λ next. run_other steps c until size next))
    (answered_other m)

pub task_other : (c : Circuit) (task : Task) (table : Columns) (r : Run) (working : Columns) → lengths_legal table ≡ true → working_legal working ≡ true
    → Other (task_call (answered c) task table r working)
unfolding start_call step_call run_call
task_other c (Start used) table r working p q =
    rw (p, q) (check_other (columns_sound c.letters table used) Unsound _ refl (check_other (start_within c) Ceiling _ refl (fitting_other (length table.letter) (start_moment c (table_of table used)))))
task_other c Step table r working p q =
    let m : Moment = moment_given table (run_in (answered c) r) in
    rw (p, q)
    (check_other (sound_together c table m.run) Unsound _ refl
    (check_other (ltb (time_after c m) never) Finished _ refl (step_other c (length table.letter) m)))
task_other c (Until time) table r working p q =
    let m : Moment = moment_given table (run_in (answered c) r) in
    rw (p, q) (check_other (sound_together c table m.run) Unsound _ refl (run_other c.horizon.0 c time (length table.letter) m))

-- after any other answer than 8 working is zero
working_zeroed : (working : Columns) (answer : Answer Moment) → Other answer → working_after working answer ≡ zeroed working
working_zeroed working answer o = rw o.is

-- a call refused 8 touches nothing
pub done_buffer : (cell : Answer Circuit) (task : Task) (table : Columns) (r : Run) (working : Columns) {x : Bool}
    → x ≡ (lengths_legal table && working_legal working) → x ≡ false
    → DoneAs table table working working (task_call cell task table r working) (Err Buffer)
done_buffer cell task table r working is e =
    rw (task_buffer cell task table r working (sym is ∙ e)) record { result_is = refl; table_is = refl; working_is = refl }

-- a refused cell leaves the table, and working zero
done_refused : (why : Refusal) (task : Task) (table : Columns) (r : Run) (working working' : Columns)
    → (lengths_legal table && working_legal working) ≡ true → eqb (refusal_number why) (refusal_number Buffer) ≡ false → working' ≡ zeroed working
    → DoneAs table table working working' (task_call (refused why) task table r working) (Err why)
done_refused why task table r working working' e o z =
    rw (task_refused why task table r working e)
    record { result_is = refl; table_is = refl; working_is = z ∙ sym (working_zeroed working (refused why) (record { is = o })) }

pub replied_refused : {read : Result Cell Refusal} → Replied read → (why : Refusal) → read ≡ Err why
    → (task : Task) (table : Columns) (r : Run) (working : Columns) {x : Bool} {working' : Columns}
    → x ≡ (lengths_legal table && working_legal working) → x ≡ true → working' ≡ zeroed working
    → DoneAs table table working working' (task_call (cell_by read) task table r working) (Err why)
replied_refused g why e task table r working {working' = working'} is legal z =
    rw e (done_refused why task table r working working' (sym is ∙ legal) (rw e at g.other) z)

-- a task that was taken on leaves working zero
pub done_went : {c d : Circuit} (task : Task) (r : Run) {table table' : Columns} {working working' : Columns} {result : Result Run Refusal}
    → d ≡ c → lengths_legal table ≡ true → working_legal working ≡ true → WentAs table table' (task_call (answered d) task table r working) result → working' ≡ zeroed working
    → DoneAs table table' working working' (task_call (answered c) task table r working) result
done_went {c} {d} task r {table} {table'} {working} {working'} same p q w z =
    rw (← same)
    record {
      result_is = w.result_is;
      table_is = w.table_is;
      working_is = z ∙ sym (working_zeroed working (task_call (answered d) task table r working) (task_other d task table r working p q));
    }
