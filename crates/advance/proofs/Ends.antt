-- What a task leaves, at each of its ends.
use Rattle.std.proofs.Common.{Result, Ok, Err}
use mathlib.Core.Path.{◌≡◌, refl, sym, ◌∙◌, ap, subst}
use mathlib.Core.List.{List}
use mathlib.Core.Bool.{Bool, true, false}
use Prim.Native.Nat.{ℕ}
use native.Mathlib.Omega.{arith}
use lib.ListN.{length}
use lib.Dec.{ltb}
use borrow.Author.Tests.{lt-ltb, le-ltb}
use Rattle.refusal.specs.declared.Refusal.{Refusal}
use Rattle.refusal.specs.declared.Refusal.TheVariants.{Unsound, Finished}
use Rattle.refusal.specs.Answer.{Answer, refused, answered, check}
use Rattle.refusal.proofs.Answer.{err_refused}
use Rattle.lists.proofs.Cases.{and_right, true_false}
use Rattle.format.specs.Circuit.{Circuit}
use Rattle.diagram.specs.Table.{Table, never}
use Rattle.diagram.specs.Call.{columns, Columns, lengths_legal, columns_sound, columns_of}
use Rattle.diagram.specs.Held.{held}
use Rattle.diagram.proofs.Columns.{held_columns}
use Rattle.rules.specs.Run.{Moment, start_answer, time_after, step_answer, run_moment, run_sound}
use Rattle.rules.specs.Call.{working_legal, moment_given, start_call, step_call, run_call}
use Rattle.rules.proofs.Moment.{time_never}
use Rattle.table.specs.Holds.{Holds, Kept, Judged}
use Rattle.table.proofs.Clearing.{kept_restored}
use Rattle.functions.proofs.Carry.{judged_open}
use Rattle.net.specs.Net.{letters_place, at, net_circuit}
use Rattle.net.specs.Laid.{Laid}
use Rattle.net.proofs.Laying.{letters_at}
use Rattle.record.specs.declared.Run.{Run}
use Rattle.record.specs.Record.{run_of}
use Rattle.admit.specs.Reached.{Left, Reached}
use Rattle.advance.specs.declared.Task.TheVariants.{Step, Until}
use Rattle.advance.specs.Task.{task_call}
use Rattle.advance.specs.Went.{run_given, WentAs}
use Rattle.advance.specs.Parts.{Together, Closed}

-- a refused task leaves all as it was
pub went_refused : {table : Columns} {answer : Answer Moment} (why : Refusal) → answer ≡ refused why → WentAs table table answer (Err why)
went_refused why e = rw e record { result_is = refl; table_is = refl }

-- what was reached is left, or cleared again
pub went_closed : {l w h ix l1 w1 h1 ix1 l2 w2 h2 : List ℕ} {t : Table} {used : ℕ} {call answer : Answer Moment} {next result : Result Run Refusal}
    → Holds l w h ix t used → length l1 ≡ length l → call ≡ answer → Reached t answer l1 w1 h1 ix1 next → Closed l1 w1 h1 l2 w2 h2 used next result
    → WentAs (columns l w h) (columns l2 w2 h2) call result
went_closed {l} {w} {h} {ix} {l1} {w1} {h1} {ix1} {l2} {w2} {h2} {t} {used} {call} {answer} {next = Err why} held long same o d =
    let restored : columns l2 w2 h2 ≡ columns l w h = d.cleared refl ∙ kept_restored held (subst (λ (n : ℕ). Kept l1 w1 h1 n t) long o.kept) in
    rw (d.result_is, restored) (went_refused why (same ∙ err_refused run_given answer o.result_is))
went_closed {l} {w} {h} {ix} {l1} {w1} {h1} {ix1} {l2} {w2} {h2} {t} {used} {call} {answer} {next = Ok next} held long same o d =
    let left : Left answer l1 w1 h1 ix1 next = o.fits in
    rw (d.result_is, same ∙ left.is)
    record {
      result_is = ap {B = Result Run Refusal} Ok left.run_is;
      table_is = d.kept refl ∙ held_columns _ _ left.holds.is ∙ ap (λ (n : ℕ). columns_of n left.moment.table) long;
    }

-- whether table and run are sound together
module _ {net l w h ix : List ℕ} {r : Run} {x : Bool} (laid : Laid (net_circuit net) net) (j : Judged (at net letters_place) l w h r.used ix x) where
  pub together_table : x ≡ false → Together net l w h ix r false
  together_table e = record { is = rw (letters_at net, ← j.is, e); opened = λ o. true_false false o refl }

  pub together_run : x ≡ true → (y : Bool) → y ≡ run_sound (net_circuit net) (held l w h r.used) (run_of (net_circuit net) r) → Together net l w h ix r y
  together_run e y o = record { is = o ∙ rw (letters_at net, ← j.is, e); opened = λ _. judged_open j e laid.within.letters }

pub together_sound : {net l w h ix : List ℕ} {r : Run} {x : Bool} → Together net l w h ix r x → x ≡ true
    → run_sound (net_circuit net) (held l w h r.used) (run_of (net_circuit net) r) ≡ true
together_sound {net} {l} {w} {h} {ix} {r} t e =
    and_right (columns_sound (net_circuit net).letters (columns l w h) r.used) (run_sound (net_circuit net) (held l w h r.used) (run_of (net_circuit net) r)) (sym t.is ∙ e)

-- a start of a cell that is answered, with columns of legal lengths
module _ (net l w h : List ℕ) (working : Columns) (legal : lengths_legal (columns l w h) ≡ true) (wide : working_legal working ≡ true)
    {ix : List ℕ} {used : ℕ} {x : Bool} (j : Judged (at net letters_place) l w h used ix x) where
  pub start_unsound : x ≡ false → start_call (answered (net_circuit net)) (columns l w h) used working ≡ refused Unsound
  unfolding start_call
  start_unsound e = rw (legal, wide, letters_at net, ← j.is, e)

  pub start_next : x ≡ true → start_call (answered (net_circuit net)) (columns l w h) used working ≡ start_answer (net_circuit net) (length l) (held l w h used)
  unfolding start_call
  start_next e = rw (legal, wide, letters_at net, ← j.is, e)

-- the other calls
module _ (net l w h : List ℕ) (r : Run) (working : Columns) (legal : lengths_legal (columns l w h) ≡ true) (wide : working_legal working ≡ true) where
  abbrev c : Circuit
  c = net_circuit net

  abbrev given : Moment
  given = moment_given (columns l w h) (run_of c r)

  module _ {ix : List ℕ} {x : Bool} (t : Together net l w h ix r x) where
    pub step_unsound : x ≡ false → task_call (answered (net_circuit net)) Step (columns l w h) r working ≡ refused Unsound
    unfolding step_call
    step_unsound e = rw (legal, wide, ← t.is, e)

    step_sound : x ≡ true → task_call (answered (net_circuit net)) Step (columns l w h) r working
        ≡ check (ltb (time_after c given) never) Finished (step_answer c (length l) given)
    unfolding step_call
    step_sound e = rw (legal, wide, ← t.is, e)

    pub step_finished : x ≡ true → time_after (net_circuit net) (moment_given (columns l w h) (run_of (net_circuit net) r)) ≡ never
        → task_call (answered (net_circuit net)) Step (columns l w h) r working ≡ refused Finished
    step_finished e z = step_sound e ∙ rw (le-ltb (time_after c given) never (omega arith))

    pub step_next : x ≡ true → (time_after (net_circuit net) (moment_given (columns l w h) (run_of (net_circuit net) r)) ≡ never → ⊥)
        → task_call (answered (net_circuit net)) Step (columns l w h) r working ≡ step_answer (net_circuit net) (length l) (moment_given (columns l w h) (run_of (net_circuit net) r))
    step_next e z = step_sound e ∙ rw (lt-ltb (time_after c given) never (omega (arith, time_never c given)))

    pub run_unsound : (until : ℕ) → x ≡ false → task_call (answered (net_circuit net)) (Until until) (columns l w h) r working ≡ refused Unsound
    unfolding run_call
    run_unsound until e = rw (legal, wide, ← t.is, e)

    pub run_next : (until : ℕ) → x ≡ true → task_call (answered (net_circuit net)) (Until until) (columns l w h) r working
        ≡ run_moment (net_circuit net).horizon.0 (net_circuit net) until (length l) (moment_given (columns l w h) (run_of (net_circuit net) r))
    unfolding run_call
    run_next until e = rw (legal, wide, ← t.is, e)
