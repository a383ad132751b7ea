-- A start that is answered, and a run that was started in a fresh table and then called on.
use mathlib.Core.Path.{◌≡◌, refl, sym, ◌∙◌, ap, ap₂, subst}
use mathlib.Core.Bool.{Bool, true}
use Prim.Native.Nat.{ℕ, ◌≤◌}
use native.Mathlib.Omega.{arith}
use lib.ListN.{length}
use Rattle.refusal.specs.declared.Refusal.TheVariants.{Buffer, Ceiling}
use Rattle.refusal.specs.Answer.{Answer, answered, check, answer_number}
use Rattle.refusal.proofs.Answer.{check_passed}
use Rattle.format.specs.Circuit.{Circuit}
use Rattle.diagram.specs.Store.{stored, fresh}
use Rattle.diagram.specs.Call.{Columns, lengths_legal, table_of, columns_of, fresh_call}
use Rattle.diagram.specs.Held.{least_entries, most_entries}
use Rattle.diagram.proofs.Columns.{Lengths, lengths_record, columns_length, table_columns}
use Rattle.diagram.proofs.Calls.{fresh_after}
use Rattle.rules.specs.Run.{Moment, start_moment, time_after, step_moment, fitting, start_within}
use Rattle.rules.specs.Call.{working_legal, start_call}
use Rattle.rules.proofs.Admitted.{Admitted, fitting_fits}
use Rattle.rules.proofs.RunSteps.{Takes}
use Rattle.commute.specs.Interface.{Held, Interface}
use Rattle.commute.specs.Lists.{Call, step, in_place, up_to, working_of, Begun, Reached}
use Rattle.commute.specs.Demand.{Stands, Within, NotRefusedUpTo}
use Rattle.commute.proofs.Lawful.{answer_of, left, Lawful}
use Rattle.commute.proofs.Trace.{Ground, Trace, begun, Started, start_answered, started_ground, fresh_ground, start_fresh, step_answers, run_answers, trace_ground, onward, StandsAt}
use Rattle.commute.proofs.Keeps.{Keeps, number_answered, answered_number, left_keeps, keeps_next, call_went, calls_keep, stands_rests}

-- an answered fresh table had columns of legal lengths
fresh_lengths : (lent : Columns) → answer_number (fresh_call lent) ≡ 0 → lengths_legal lent ≡ true
unfolding fresh_call
fresh_lengths lent e =
    let a = number_answered (check (lengths_legal lent) Buffer (answered (stored fresh 0))) e in
    (check_passed (lengths_legal lent) Buffer (answered (stored fresh 0)) a.0 a.1).0

-- and the other way round
fresh_answered : (lent : Columns) → lengths_legal lent ≡ true → answer_number (fresh_call lent) ≡ 0
unfolding fresh_call
fresh_answered lent e = ap (λ (b : Bool). answer_number (check b Buffer (answered (stored fresh 0)))) e

module _ {Source R : Type 0} {K : Interface Source R} (L : Lawful K) (s : Source) (c : Circuit) (cell : K.cell s ≡ answered c) where
  -- an answered start
  pub start_keeps : (used : ℕ) {h h' : Held R} {working working' : Columns} → K.Start s used h h' working working' 0
      → (m : Moment) × Started c h.table used m × Keeps K c (length h.table.letter) h' (start_moment c (table_of h.table used))
  start_keeps used {h} {h'} {working} {working'} start =
      let w = L.start s used h h' working working' 0 (L.start_sized s used h h' working working' start) start in
      let a = number_answered (start_call (K.cell s) h.table used working) (sym w.number_is) in
      let e : start_call (answered c) h.table used working ≡ answered a.0 = ap (λ (x : Answer Circuit). start_call x h.table used working) (sym cell) ∙ a.1 in
      let x : Started c h.table used a.0 = start_answered c h.table used working a.0 e in (
        a.0,
        x,
        left_keeps L s c cell (started_ground (L.legal s c cell) h.table used a.0 x) h h' refl
            (w.held_is ∙ ap (left L.stored h) (a.1 ∙ ap {B = Answer Moment} answered x.is)),
      )

  module _ {size : ℕ} where
    -- a fresh table of a length
    fresh_table : (lent made : Columns) → length lent.letter ≡ size → K.Fresh lent made 0 → (least_entries ≤ size) × (size ≤ most_entries) × (made ≡ columns_of size fresh)
    fresh_table lent made long x =
        let y = L.fresh lent made 0 x in
        let legal = fresh_lengths lent (sym y.0) in
        let l : Lengths lent = lengths_record lent legal in
        (omega (arith, l.least), omega (arith, l.most), y.1 ∙ fresh_after lent legal ∙ ap (λ (n : ℕ). columns_of n fresh) long)

    -- a run that was started had a start within the ceiling
    pub begun_within : {h : Held R} → Begun K s size h → start_within c ≡ true
    begun_within b = (start_keeps (length fresh) b.start).1.within

    -- a run that was started in a fresh table
    pub begun_keeps : {h : Held R} → Begun K s size h → Ground c size (start_moment c fresh) × Keeps K c size h (start_moment c fresh)
    begun_keeps {h} b =
        let f = fresh_table b.lent b.made.table b.long b.fresh_table in
        let x = start_keeps (length fresh) b.start in
        let long : length b.made.table.letter ≡ size = ap (λ (t : Columns). length t.letter) f.2 ∙ columns_length size fresh f.0 in
        let same : table_of b.made.table (length fresh) ≡ fresh = ap (λ (t : Columns). table_of t (length fresh)) f.2 ∙ table_columns size fresh f.0 in (
          fresh_ground (L.legal s c cell) f.0 f.1 (subst (λ (t : _). length (start_moment c t).table ≤ size) same (rw (← long) x.1.fits)),
          subst (λ (m : Moment). Keeps K c size h m) (ap (start_moment c) same) (subst (λ (n : ℕ). Keeps K c n h (start_moment c (table_of b.made.table (length fresh)))) long x.2),
        )

    -- and one that was called on then
    pub reached_keeps : {h : Held R} → Reached K s size h → Ground c size (start_moment c fresh) × ((m : Moment) × Trace c size (start_moment c fresh) m × Keeps K c size h m)
    reached_keeps r =
        let b = begun_keeps r.begun in
        (b.0, calls_keep L s c cell b.0 b.1 r.after)

    -- and stands at a picosecond
    pub reached_stands : {h : Held R} {p : ℕ} → Reached K s size h → Stands K s c h p → (m : Moment) × StandsAt c size (start_moment c fresh) p m × Keeps K c size h m
    reached_stands {p = p} r stands =
        let x = reached_keeps r in
        let y = stands_rests L s c cell (trace_ground x.0 x.1.1) x.1.2 p stands in
        (x.1.0, record { ground = x.0; trace = x.1.1; time = y.0; rests = y.1 }, x.1.2)

    -- where the start is within the ceiling and fits and every step up to a picosecond is admitted, running the cell is not refused up to it
    pub not_refused : start_within c ≡ true → length (start_moment c fresh).table ≤ size → (p : ℕ)
        → ((m : Moment) → Trace c size (start_moment c fresh) m → Takes c p m → Admitted c size m) → NotRefusedUpTo K s c size p
    not_refused within first p each = record {
      fresh_table = λ lent made legal number x. let y = L.fresh lent made number x in y.0 ∙ fresh_answered lent legal;
      start = λ lent long made h x sized working working' w number started.
          let f = fresh_table lent made.table long x in
          let y = L.start s (length fresh) made h working working' number (subst (λ (a : Answer Circuit). K.Sized a made.run) (sym cell) sized) started in
          answered_number number y.number_is
          (ap₂ (λ (a : Answer Circuit) (t : Columns). start_call a t least_entries working) cell f.2
          ∙ start_fresh c f.0 f.1 working w
          ∙ ap (λ (b : Bool). check b Ceiling (fitting size (start_moment c fresh))) within
          ∙ fitting_fits size (start_moment c fresh) first);
      calls = λ h r call w by h' number made.
          let x = reached_keeps r in
          let t = x.1.1 in
          let g = trace_ground x.0 t in
          let k = x.1.2 in
          let a = answers call w (subst (λ (time : ℕ). Within p time call) (keeps_next L s c cell g k) by) x.0 t in
          answered_number number (call_went L s c cell g k call made).number_is a.1;
    }
      where
        answers : (call : Call) → working_legal (working_of call) ≡ true → {m : Moment} → Within p (time_after c m) call → Ground c size (start_moment c fresh) → (t : Trace c size (start_moment c fresh) m)
            → (after : Moment) × (answer_of c (columns_of size m.table) m.run call ≡ answered after)
        answers (step working) w {m} (more, reach) g t = (step_moment c m, step_answers (trace_ground g t) working w more (each m t (record { more = more; reach = reach })))
        answers (in_place working) w {m} (more, reach) g t = (step_moment c m, step_answers (trace_ground g t) working w more (each m t (record { more = more; reach = reach })))
        answers (up_to q working) w {m} l g t =
            run_answers (trace_ground g t) q working w (λ last u takes. each last (onward t u) (record { more = takes.more; reach = omega (arith, takes.reach) }))
