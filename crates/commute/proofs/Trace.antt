-- The moments that a run and its list of calls can hold: the one that it set out from, and each step that is admitted.
use mathlib.Core.Path.{◌≡◌, refl, sym, ◌∙◌, ap}
use mathlib.Core.Logic.{inl, inr}
use mathlib.Core.Bool.{Bool, true, ◌&&◌}
use Prim.Native.Nat.{ℕ, ◌+◌, ◌<◌, ◌≤◌}
use native.Mathlib.Omega.{arith}
use lib.ListN.{length}
use lib.Dec.{leb, ltb}
use borrow.Author.Tests.{le-leb, leb-true, ltb-true, lt-ltb}
use Rattle.refusal.specs.declared.Refusal.TheVariants.{Full, Buffer, Unsound, Finished, Question, Ceiling}
use Rattle.refusal.specs.Answer.{Answer, refused, answered, check}
use Rattle.refusal.proofs.Answer.{same_answer, check_passed}
use Rattle.lists.proofs.Cases.{and_left, and_right, and_both}
use Rattle.format.specs.Circuit.{Circuit, first_node_number}
use Rattle.format.specs.Legal.{check_circuit}
use Rattle.diagram.specs.Pattern.{patterns}
use Rattle.diagram.specs.Table.{never}
use Rattle.diagram.specs.Store.{fresh}
use Rattle.diagram.specs.Call.{Columns, lengths_legal, table_of, columns_of, columns_sound}
use Rattle.diagram.specs.Held.{least_entries, most_entries}
use Rattle.diagram.proofs.Columns.{Lengths, lengths_record, lengths_test, columns_record, columns_lengths, columns_length, columns_sound_test, table_columns}
use Rattle.diagram.proofs.Sound.{Sound, sound_test}
use Rattle.diagram.proofs.Calls.{fresh_sound}
use Rattle.rules.specs.Run.{Moment, state_of, start_moment, time_after, step_moment, start_within, start_answer}
use Rattle.rules.specs.Call.{least_working, working_legal, moment_given, start_call, step_call, run_call, ask_call}
use Rattle.rules.proofs.Moment.{SoundMoment, start_sound, step_sound, step_time_lem, time_within}
use Rattle.rules.proofs.Readable.{held_given, held_step, held_run, wire_of, held_ask}
use Rattle.rules.proofs.Admitted.{Admitted, admitting, admitted_answer, admitted_not_barred, answer_admitted}
use Rattle.rules.proofs.RunSteps.{Rests, Takes, Steps, stays, goes, ran, run_rests, run_refused, run_exact, steps_keep, steps_trans}

-- a sound moment of a legal cell that a run sets out from, in a table of a legal length
pub record Ground (c : Circuit) (size : ℕ) (m : Moment) : Type 0 where
  pub legal : check_circuit c ≡ answered c
  pub least : least_entries ≤ size
  pub most : size ≤ most_entries
  pub sound : SoundMoment c m
  pub fits : length m.table ≤ size

-- a moment that the run can hold
pub data Trace (c : Circuit) (size : ℕ) (from : Moment) : Moment → Type 0 where
  begun : Trace c size from from
  stepped : {m : Moment} → Trace c size from m → time_after c m < never → Admitted c size m → Trace c size from (step_moment c m)

-- a run that set out from one moment stands at a picosecond in another
pub record StandsAt (c : Circuit) (size : ℕ) (from : Moment) (until : ℕ) (m : Moment) : Type 0 where
  pub ground : Ground c size from
  pub trace : Trace c size from m
  pub time : m.run.time ≤ until
  pub rests : Rests c until m

module _ {c : Circuit} {size : ℕ} {from : Moment} (g : Ground c size from) where
  -- the table of a moment that the run can hold fits
  pub trace_fits : {m : Moment} → Trace c size from m → length m.table ≤ size
  trace_fits begun = g.fits
  trace_fits (stepped t more a) = a.fits

  -- it is sound
  pub trace_sound : {m : Moment} → Trace c size from m → SoundMoment c m
  trace_sound begun = g.sound
  trace_sound (stepped t more a) = step_sound g.legal (trace_sound t) more

  -- so that a run can set out from it too
  pub trace_ground : {m : Moment} → Trace c size from m → Ground c size m
  trace_ground t = record { legal = g.legal; least = g.least; most = g.most; sound = trace_sound t; fits = trace_fits t }

  -- each one up to a picosecond is reached by steps
  pub trace_steps : {m : Moment} → Trace c size from m → (p : ℕ) → m.run.time ≤ p → Steps c p size from m
  trace_steps begun p h = stays
  trace_steps (stepped {m = m} t next a) p h =
      let e = step_time_lem c m in
      let w = time_within g.legal (trace_sound t) next in
      steps_trans c p size (trace_steps t p (omega arith)) (goes (record { more = next; reach = omega arith }) a stays)

-- steps lead from one to another
pub steps_trace : {c : Circuit} {until size : ℕ} {from m after : Moment} → Steps c until size m after → Trace c size from m → Trace c size from after
steps_trace {c} {until} {size} {from} steps t = steps_keep c until size (Trace c size from) (λ m k s a. stepped k s.more a) steps t

-- and what can be held after a moment that can be held can be held
pub onward : {c : Circuit} {size : ℕ} {from m after : Moment} → Trace c size from m → Trace c size m after → Trace c size from after
onward t begun = t
onward t (stepped u more a) = stepped (onward t u) more a

-- no moment both has a next step and has none
pub takes_not_rests : {c : Circuit} {until : ℕ} {m : Moment} → Takes c until m → Rests c until m → ⊥
takes_not_rests t (inl e) = omega (arith, t.more)
takes_not_rests t (inr g) = omega (arith, t.reach)

-- steps to a moment with none left go through every other moment reached
pub steps_through : {c : Circuit} {until size : ℕ} {m between after : Moment} → Steps c until size m between → Steps c until size m after → Rests c until after → Steps c until size between after
steps_through stays there r = there
steps_through (goes t a rest) stays r = absurd (takes_not_rests t r)
steps_through (goes t a rest) (goes u b there) r = steps_through rest there r

-- a legal working table
abbrev pub some_working : Columns
some_working = columns_of least_working fresh

-- its lengths are legal
pub some_working_lem : working_legal some_working ≡ true
some_working_lem =
    and_both (lengths_legal some_working) (leb least_working (length some_working.letter))
    (lengths_test some_working (columns_lengths least_working fresh (omega arith) (omega arith) (omega arith)))
    (le-leb least_working (length some_working.letter) (omega (arith, columns_length least_working fresh (omega arith))))

-- what an answered start says: its table is sound, and the answer is the start in it, which is within the ceiling and fits
pub record Started (c : Circuit) (table : Columns) (used : ℕ) (m : Moment) : Type 0 where
  pub lengths : Lengths table
  pub sound : Sound c.letters (table_of table used)
  pub is : m ≡ start_moment c (table_of table used)
  pub within : start_within c ≡ true
  pub fits : length (start_moment c (table_of table used)).table ≤ length table.letter

pub start_answered : (c : Circuit) (table : Columns) (used : ℕ) (working : Columns) (m : Moment) → start_call (answered c) table used working ≡ answered m → Started c table used m
unfolding start_call
start_answered c table used working m e =
    let one = check_passed (lengths_legal table && working_legal working) Buffer _ m e in
    let two = check_passed (columns_sound c.letters table used) Unsound _ m one.1 in
    let three = check_passed (start_within c) Ceiling _ m two.1 in
    let four = check_passed (leb (length (start_moment c (table_of table used)).table) (length table.letter)) Full (answered (start_moment c (table_of table used))) m three.1 in
    record {
      lengths = lengths_record table (and_left (lengths_legal table) (working_legal working) one.0);
      sound = (columns_record c.letters table used two.0).table;
      is = sym (same_answer four.1);
      within = three.0;
      fits = leb-true (length (start_moment c (table_of table used)).table) (length table.letter) four.0;
    }

-- a run sets out from it
pub started_ground : {c : Circuit} → check_circuit c ≡ answered c → (table : Columns) (used : ℕ) (m : Moment) → Started c table used m → Ground c (length table.letter) (start_moment c (table_of table used))
started_ground legal table used m s = record {
  legal = legal;
  least = s.lengths.least;
  most = s.lengths.most;
  sound = start_sound legal s.sound;
  fits = s.fits;
}

-- a run in a fresh table sets out from its start
pub fresh_ground : {c : Circuit} {size : ℕ} → check_circuit c ≡ answered c → least_entries ≤ size → size ≤ most_entries → length (start_moment c fresh).table ≤ size → Ground c size (start_moment c fresh)
fresh_ground {c} legal least most fits = record { legal = legal; least = least; most = most; sound = start_sound legal (fresh_sound c.letters); fits = fits }

-- the start in a fresh table
pub start_fresh : (c : Circuit) {size : ℕ} → least_entries ≤ size → size ≤ most_entries → (working : Columns) → working_legal working ≡ true
    → start_call (answered c) (columns_of size fresh) least_entries working ≡ start_answer c size fresh
unfolding start_call
start_fresh c {size} least most working w =
    rw (
      and_both (lengths_legal (columns_of size fresh)) (working_legal working) (lengths_test (columns_of size fresh) (columns_lengths size fresh least most least)) w,
      columns_sound_test c.letters size fresh (sound_test c.letters fresh (fresh_sound c.letters)) least,
      table_columns size fresh least,
      columns_length size fresh least,
    )

-- an answered step or run had a legal working table
module _ (c : Circuit) (table : Columns) (r : _) where
  pub step_working : (working : Columns) (after : Moment) → step_call (answered c) table r working ≡ answered after → working_legal working ≡ true
  unfolding step_call
  step_working working after e = and_right (lengths_legal table) (working_legal working) (check_passed (lengths_legal table && working_legal working) Buffer _ after e).0

  pub run_working : (until : ℕ) (working : Columns) (after : Moment) → run_call (answered c) until table r working ≡ answered after → working_legal working ≡ true
  unfolding run_call
  run_working until working after e = and_right (lengths_legal table) (working_legal working) (check_passed (lengths_legal table && working_legal working) Buffer _ after e).0

-- calls on the columns and the run record of a moment
module _ {c : Circuit} {size : ℕ} {m : Moment} (g : Ground c size m) where
  -- they give it back
  pub ground_given : moment_given (columns_of size m.table) m.run ≡ m
  ground_given = held_given g.sound size g.fits

  -- the answer of a step, and of a run up to a picosecond
  ground_step : (working : Columns) → working_legal working ≡ true
      → step_call (answered c) (columns_of size m.table) m.run working ≡ check (ltb (time_after c m) never) Finished (admitting c size m)
  ground_step working w = held_step g.sound size g.least g.most g.fits working w

  ground_run : (until : ℕ) (working : Columns) → working_legal working ≡ true → run_call (answered c) until (columns_of size m.table) m.run working ≡ ran c until size m
  ground_run until working w = held_run g.sound size g.least g.most g.fits working w until

  -- a step is answered exactly if there is one and it is admitted
  pub step_answers : (working : Columns) → working_legal working ≡ true → time_after c m < never → Admitted c size m
      → step_call (answered c) (columns_of size m.table) m.run working ≡ answered (step_moment c m)
  step_answers working w next a = ground_step working w ∙ rw (lt-ltb (time_after c m) never next) (admitted_answer a)

  -- and what is answered is the step's moment
  pub step_answered : (working : Columns) (after : Moment) → step_call (answered c) (columns_of size m.table) m.run working ≡ answered after
      → (time_after c m < never) × Admitted c size m × (after ≡ step_moment c m)
  step_answered working after e =
      let w = step_working c (columns_of size m.table) m.run working after e in
      let one = check_passed (ltb (time_after c m) never) Finished (admitting c size m) after (sym (ground_step working w) ∙ e) in
      let two = answer_admitted one.1 in
      (ltb-true (time_after c m) never one.0, two.0, two.1)

  -- a run is answered exactly if each of its steps is admitted
  pub run_answers : (until : ℕ) (working : Columns) → working_legal working ≡ true
      → ((last : Moment) → Trace c size m last → Takes c until last → Admitted c size last)
      → (after : Moment) × (run_call (answered c) until (columns_of size m.table) m.run working ≡ answered after)
  run_answers until working w each = from (ran c until size m) refl
    where
      from : (a : Answer Moment) → ran c until size m ≡ a → (after : Moment) × (run_call (answered c) until (columns_of size m.table) m.run working ≡ answered after)
      from (answered after) e = (after, ground_run until working w ∙ e)
      from (refused why) e =
          let r = run_refused c until size c.horizon.0 m why e in
          absurd (admitted_not_barred (each r.0 (steps_trace r.1 begun) r.2) r.3)

  -- an answered run took its steps, and none is left
  pub run_answered : (until : ℕ) (working : Columns) (after : Moment) → run_call (answered c) until (columns_of size m.table) m.run working ≡ answered after
      → Steps c until size m after × Rests c until after
  run_answered until working after e =
      let w = run_working c (columns_of size m.table) m.run until working after e in
      run_exact g.legal until size g.sound after (sym (ground_run until working w) ∙ e)

  -- one without a step is answered with the moment itself
  pub run_rested : (until : ℕ) (working : Columns) → working_legal working ≡ true → Rests c until m → run_call (answered c) until (columns_of size m.table) m.run working ≡ answered m
  run_rested until working w r = ground_run until working w ∙ run_rests c until size c.horizon.0 m r

  -- a question about a node at a pattern is answered from the state that the moment holds
  pub ground_ask : (n q : ℕ) → n < first_node_number + length c.nodes → q < patterns c.letters
      → ask_call (answered c) (columns_of size m.table) m.run n q ≡ answered (wire_of (state_of c m.table m.run q) n)
  ground_ask n q hn hq =
      held_ask g.sound size g.least g.most g.fits n q
      ∙ ap (λ (b : Bool). check b Question (answered (wire_of (state_of c m.table m.run q) n)))
      (and_both (ltb n (first_node_number + length c.nodes)) (ltb q (patterns c.letters)) (lt-ltb n (first_node_number + length c.nodes) hn) (lt-ltb q (patterns c.letters) hq))
