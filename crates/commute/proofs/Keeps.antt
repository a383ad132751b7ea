-- What is held after a list of calls: a moment of the run, in the columns and in the record.
use mathlib.Core.Path.{◌≡◌, refl, sym, ◌∙◌, ap, ap₂, subst}
use mathlib.Core.List.{List}
use Prim.Native.Nat.{ℕ, ◌<◌, ◌≤◌}
use native.Mathlib.Omega.{arith}
use lib.ListN.{length}
use Rattle.refusal.specs.declared.Refusal.{Refusal}
use Rattle.refusal.specs.declared.Refusal.TheVariants.{Length, Header, Chain, Record, Order, Full, Unsound, Buffer, Question, Finished, Ceiling}
use Rattle.refusal.specs.Number.{refusal_number}
use Rattle.refusal.specs.Answer.{Answer, refused, answered, answer_number}
use Rattle.format.specs.Circuit.{Circuit}
use Rattle.format.proofs.Legal.{legal_limits}
use Rattle.diagram.specs.Pattern.{patterns}
use Rattle.diagram.specs.Call.{Columns, columns_of}
use Rattle.diagram.proofs.Columns.{columns_length}
use Rattle.rules.specs.Run.{Run, Moment, state_of, time_after}
use Rattle.rules.specs.Call.{moment_given, ask_call}
use Rattle.rules.proofs.RunSteps.{Rests}
use Rattle.commute.specs.Interface.{Held, Interface}
use Rattle.commute.specs.Lists.{Call, step, in_place, up_to, Made, After, none, next}
use Rattle.commute.specs.Demand.{time_held, step_time, Stands}
use Rattle.commute.specs.Alone.{Tells}
use Rattle.commute.proofs.Lawful.{answer_of, left, Went, Long, Lawful}
use Rattle.commute.proofs.Trace.{Ground, Trace, begun, stepped, trace_ground, steps_trace, onward, ground_given, step_answered, run_answered, ground_ask}

-- no refusal has the number 0
refusal_positive : (why : Refusal) → refusal_number why ≡ 0 → ⊥
refusal_positive Length e = omega arith
refusal_positive Header e = omega arith
refusal_positive Chain e = omega arith
refusal_positive Record e = omega arith
refusal_positive Order e = omega arith
refusal_positive Full e = omega arith
refusal_positive Unsound e = omega arith
refusal_positive Buffer e = omega arith
refusal_positive Question e = omega arith
refusal_positive Finished e = omega arith
refusal_positive Ceiling e = omega arith

-- so a call that gives 0 is answered
pub number_answered : {A : Type 0} (answer : Answer A) → answer_number answer ≡ 0 → (a : A) × (answer ≡ answered a)
number_answered (refused why) e = absurd (refusal_positive why e)
number_answered (answered a) e = (a, refl)

-- and what was answered has the number 0
pub answered_number : {A : Type 0} {answer : Answer A} {a : A} (number : ℕ) → number ≡ answer_number answer → answer ≡ answered a → number ≡ 0
answered_number number e k = e ∙ ap answer_number k

-- a moment is held: its table in the columns, its run in the record
pub record Keeps {Source R : Type 0} (K : Interface Source R) (c : Circuit) (size : ℕ) (h : Held R) (m : Moment) : Type 0 where
  pub table : h.table ≡ columns_of size m.table
  pub run : K.stated c h.run ≡ m.run
  pub sized : K.Sized (answered c) h.run

module _ {Source R : Type 0} {K : Interface Source R} (L : Lawful K) (s : Source) (c : Circuit) (cell : K.cell s ≡ answered c) {size : ℕ} where
  -- the run of a moment is as long as the cell's nodes are many
  ground_long : {m : Moment} → Ground c size m → Long c m.run
  ground_long g = record { few = (legal_limits g.legal).most_nodes_lem; values = g.sound.run.values_long; changes = g.sound.run.changes_long }

  -- what an answer leaves of what was held
  pub left_keeps : {m : Moment} → Ground c size m → (h h' : Held R) → length h.table.letter ≡ size → h' ≡ left L.stored h (answered m) → Keeps K c size h' m
  left_keeps {m} g h h' long e =
      subst (λ (x : Held R). Keeps K c size x m) (sym e)
      (record {
        table = ap (λ (n : ℕ). columns_of n m.table) long;
        run = L.stored_stated c m.run (ground_long g);
        sized = L.stored_sized c m.run (ground_long g);
      })

  module _ {m : Moment} (g : Ground c size m) {h : Held R} (k : Keeps K c size h m) where
    -- the columns are as long as the table was to be
    pub keeps_long : length h.table.letter ≡ size
    keeps_long = ap (λ (x : Columns). length x.letter) k.table ∙ columns_length size m.table g.fits

    -- columns and record give the moment
    pub keeps_given : moment_given h.table (K.stated c h.run) ≡ m
    keeps_given = ap₂ moment_given k.table k.run ∙ ground_given g

    pub keeps_time : time_held K c h ≡ m.run.time
    keeps_time = ap (λ (r : Run). r.time) k.run

    pub keeps_next : step_time K c h ≡ time_after c m
    keeps_next = ap (time_after c) keeps_given

    -- a call on them is one on the moment's
    pub call_went : (call : Call) {h' : Held R} {number : ℕ} → Made K s call h h' number → Went L.stored (answer_of c (columns_of size m.table) m.run call) h h' number
    call_went call {h'} {number} made =
        subst (λ (a : Answer Moment). Went L.stored a h h' number) (ap₂ (λ (x : Columns) (r : Run). answer_of c x r call) k.table k.run)
        (L.made s c cell call h h' number k.sized made)

    -- what is answered is a later moment of the run
    pub answer_trace : (call : Call) (after : Moment) → answer_of c (columns_of size m.table) m.run call ≡ answered after → Trace c size m after
    answer_trace (step working) after e = let x = step_answered g working after e in subst (Trace c size m) (sym x.2) (stepped begun x.0 x.1)
    answer_trace (in_place working) after e = let x = step_answered g working after e in subst (Trace c size m) (sym x.2) (stepped begun x.0 x.1)
    answer_trace (up_to until working) after e = steps_trace (run_answered g until working after e).0 begun

    -- so a call leads to a moment of the run: to the same one where it is refused
    pub call_keeps : (call : Call) {h' : Held R} (number : ℕ) → Made K s call h h' number → (after : Moment) × Trace c size m after × Keeps K c size h' after
    call_keeps call {h'} number made = from (answer_of c (columns_of size m.table) m.run call) refl (call_went call made).held_is
      where
        from : (a : Answer Moment) → answer_of c (columns_of size m.table) m.run call ≡ a → h' ≡ left L.stored h a → (after : Moment) × Trace c size m after × Keeps K c size h' after
        from (refused why) e l = (m, begun, subst (λ (x : Held R). Keeps K c size x m) (sym l) k)
        from (answered after) e l =
            let t = answer_trace call after e in
            (after, t, left_keeps (trace_ground g t) h h' keeps_long l)

    -- an answered one to what it was answered with
    pub call_answered : (call : Call) {h' : Held R} → Made K s call h h' 0
        → (after : Moment) × (answer_of c (columns_of size m.table) m.run call ≡ answered after) × Keeps K c size h' after
    call_answered call {h'} made =
        let w = call_went call made in
        let a = number_answered (answer_of c (columns_of size m.table) m.run call) (sym w.number_is) in
        let t = answer_trace call a.0 a.1 in
        (a.0, a.1, left_keeps (trace_ground g t) h h' keeps_long (w.held_is ∙ ap (left L.stored h) a.1))

    -- where it stands at p, its time is not past and no step is left up to there
    pub stands_rests : (p : ℕ) → Stands K s c h p → (m.run.time ≤ p) × Rests c p m
    stands_rests p x =
        let y = call_answered (up_to p x.working) (x.working', x.rests) in
        let after : Moment = y.0 in
        let r = run_answered g p x.working after y.1 in
        let g' : Ground c size after = trace_ground g (steps_trace r.0 begun) in
        let same : after ≡ m =
        sym (ground_given g') ∙ ap₂ moment_given (sym y.2.table ∙ k.table) (sym y.2.run ∙ k.run) ∙ ground_given g in
        (omega (arith, x.time, keeps_time), subst (Rests c p) same r.1)

    -- a question at a pattern is answered from the state that is held
    pub keeps_tells : (q : ℕ) → q < patterns c.letters → Tells K s c h q (state_of c m.table m.run q)
    keeps_tells q hq n hn number value change asked =
        let w = L.ask s c cell h n q number value change k.sized asked in
        let e = ap₂ (λ (x : Columns) (r : Run). ask_call (answered c) x r n q) k.table k.run ∙ ground_ask g n q hn hq in
        let t = w.told _ e in
        (answered_number number w.number_is e, t.0, t.1)

  -- a list of calls leads to a moment of the run
  pub calls_keep : {m : Moment} → Ground c size m → {h last : Held R} → Keeps K c size h m → {calls : List Call} → After K s h calls last
      → (after : Moment) × Trace c size m after × Keeps K c size last after
  calls_keep {m} g k none = (m, begun, k)
  calls_keep {m} g k (next {h' = h'} call number made rest) =
      let x = call_keeps g k call {h' = h'} number made in
      let y = calls_keep {m = (call_keeps g k call {h' = h'} number made).0} (trace_ground g x.1) x.2 rest in
      (y.0, onward x.1 y.1, y.2)
