-- The order of fixing letters and running makes no difference.
use mathlib.Core.Path.{◌≡◌, sym, ◌∙◌, ap}
use mathlib.Core.Logic.{inl, inr, ⊎_elim}
use Prim.Native.Nat.{ℕ, ◌≤◌, ◌<◌}
use native.Mathlib.Omega.{arith}
use lib.ListN.{length}
use Rattle.lists.proofs.Cases.{lt_or_ge}
use Rattle.refusal.specs.Answer.{answered}
use Rattle.format.specs.Circuit.{Circuit}
use Rattle.format.specs.Legal.{check_circuit}
use Rattle.format.specs.Fixing.{Fixing, fixed}
use Rattle.diagram.specs.Pattern.{patterns}
use Rattle.diagram.specs.Table.{never}
use Rattle.diagram.specs.Store.{fresh}
use Rattle.rules.specs.State.{State, value_at, change_at}
use Rattle.rules.specs.Run.{Moment, start_moment, time_after, step_moment}
use Rattle.diagram.proofs.Calls.{fresh_sound}
use Rattle.rules.proofs.Moment.{SoundMoment, time_never, time_within, legal_few, start_sound, step_sound}
use Rattle.rules.proofs.Admitted.{Admitted}
use Rattle.rules.proofs.RunSteps.{Takes, Rests, Steps, stays, goes}
use Rattle.commute.specs.Interface.{Interface}
use Rattle.commute.specs.Demand.{fixed_pattern, OrderMakesNoDifference}
use Rattle.commute.specs.Alone.{Alone, steps_alone}
use Rattle.commute.proofs.Fixed.{fixed_alike, pattern_lt}
use Rattle.commute.proofs.Trace.{Ground, Trace, begun, stepped, fresh_ground, trace_sound, trace_ground, trace_steps, takes_not_rests, steps_through, StandsAt}
use Rattle.commute.proofs.Cover.{covered_length}
use Rattle.commute.proofs.Together.{legal', sound_table, fixed_letters, state_at, Abreast, start_abreast, next_abreast, fixing_keeps_start_within, fixing_keeps_step_within, both_step, first_steps}
use Rattle.commute.proofs.Alone.{start_alone_lem, steps_fixed}
use Rattle.commute.proofs.Same.{same_states}
use Rattle.commute.proofs.Lawful.{Lawful}
use Rattle.commute.proofs.Keeps.{keeps_tells}
use Rattle.commute.proofs.Begun.{begun_within, reached_stands, not_refused}

-- the fixed cell's moment beside one of the cell's
pub record Beside (φ : Fixing) (c : Circuit) (size : ℕ) (m : Moment) : Type 0 where
  pub moment : Moment
  pub ground : Ground (fixed φ c) size (start_moment (fixed φ c) fresh)
  pub trace : Trace (fixed φ c) size (start_moment (fixed φ c) fresh) moment
  pub abreast : Abreast φ c m moment

module _ (φ : Fixing) (c : Circuit) {size : ℕ} (g : Ground c size (start_moment c fresh)) where
  abbrev d : Circuit
  d = fixed φ c

  abbrev legal : check_circuit c ≡ answered c
  legal = g.legal

  abbrev dlegal : check_circuit d ≡ answered d
  dlegal = legal' φ c legal

  -- a fixed moment abreast of one that fits fits too
  fits_abreast : {m m' : Moment} → SoundMoment d m' → Abreast φ c m m' → length m.table ≤ size → length m'.table ≤ size
  fits_abreast {m} {m'} s' a room = omega (arith, covered_length φ (legal_few legal) m'.table m.table (sound_table φ c legal s') a.covered)

  -- so the fixed cell's step beside an admitted one is admitted
  admitted_beside : {m m' : Moment} → SoundMoment c m → SoundMoment d m' → Abreast φ c m m' → time_after c m < never → time_after d m' ≡ time_after c m → Admitted c size m → Admitted d size m'
  admitted_beside s s' a more same admitted = record {
    within = fixing_keeps_step_within φ c legal a same admitted.within;
    fits = fits_abreast (step_sound dlegal s' (omega arith)) (both_step φ c legal a s s' more same) admitted.fits;
  }

  -- one step further
  beside_step : {m : Moment} → Trace c size (start_moment c fresh) m → time_after c m < never → Admitted c size m → Beside φ c size m → Beside φ c size (step_moment c m)
  beside_step {m} t more admitted b =
      let m' : Moment = b.moment in
      let a : Abreast φ c m m' = b.abreast in
      let s : SoundMoment c m = trace_sound g t in
      let s' : SoundMoment d m' = trace_sound b.ground b.trace in
      ⊎_elim
      (λ (l : time_after c m < time_after d m'). record { moment = m'; ground = b.ground; trace = b.trace; abreast = first_steps φ c legal a s s' more l })
      (λ (l : time_after d m' ≤ time_after c m).
      let same : time_after d m' ≡ time_after c m = omega (arith, next_abreast φ c legal a) in
      record {
        moment = step_moment d m';
        ground = b.ground;
        trace = stepped b.trace (omega arith) (admitted_beside s s' a more same admitted);
        abreast = both_step φ c legal a s s' more same;
      })
      (lt_or_ge (time_after c m) (time_after d m'))

  -- the fixed cell's start fits
  start_ground : Ground d size (start_moment d fresh)
  start_ground =
      let a : Abreast φ c (start_moment c fresh) (start_moment d fresh) = start_abreast φ c legal in
      fresh_ground dlegal g.least g.most (fits_abreast (start_sound dlegal (fresh_sound d.letters)) a g.fits)

  -- beside every moment of the cell's run stands one of the fixed cell's
  pub beside : {m : Moment} → Trace c size (start_moment c fresh) m → Beside φ c size m
  beside begun = record { moment = start_moment d fresh; ground = start_ground; trace = begun; abreast = start_abreast φ c legal }
  beside (stepped t more admitted) = beside_step t more admitted (beside t)

  -- the cell's run stands at p in m
  module _ {m : Moment} (t : Trace c size (start_moment c fresh) m) (p : ℕ) (time : m.run.time ≤ p) (rests : Rests c p m) where
    side : Beside φ c size m
    side = beside t

    -- then the fixed cell's run stands at p beside it
    side_time : side.moment.run.time ≤ p
    side_time = omega (arith, side.abreast.behind)

    side_rests : Rests d p side.moment
    side_rests =
        ⊎_elim
        (λ (e : time_after c m ≡ never). inl (omega (arith, next_abreast φ c legal side.abreast, time_never d side.moment)))
        (λ (l : p < time_after c m). inr (omega (arith, next_abreast φ c legal side.abreast)))
        rests

    -- every step of the fixed cell up to p leads there, so it is admitted
    pub steps_admitted : (m' : Moment) → Trace d size (start_moment d fresh) m' → Takes d p m' → Admitted d size m'
    steps_admitted m' t' next =
        let now = time_within dlegal (trace_sound start_ground t') next.more in
        from next side_rests (steps_through (trace_steps start_ground t' p (omega (arith, now.0, next.reach))) (trace_steps start_ground side.trace p side_time) side_rests)
      where
        from : {a b : Moment} → Takes d p a → Rests d p b → Steps d p size a b → Admitted d size a
        from u r stays = absurd (takes_not_rests u r)
        from u r (goes v admitted rest) = admitted

-- where both runs stand at p, the fixed cell's state at a pattern is the cell's with the letters fixed; the tables have no part in it
pub same_state : (φ : Fixing) (c : Circuit) {size size' p : ℕ} {m m' : Moment}
    → StandsAt c size (start_moment c fresh) p m → StandsAt (fixed φ c) size' (start_moment (fixed φ c) fresh) p m'
    → (q : ℕ) → q < patterns c.letters → state_at (fixed φ c) m' q ≡ state_at c m (fixed_pattern φ c.letters q)
same_state φ c s s' q h =
    let d : Circuit = fixed φ c in
    let r : ℕ = fixed_pattern φ c.letters q in
    let hq : q < patterns d.letters = rw (fixed_letters φ c) h in
    let hr : r < patterns c.letters = pattern_lt φ c.letters c.letters q (omega arith) h in
    same_states s' s q r hq hr
    (λ n.
    ap (λ (a : Alone). steps_alone d q a n) (start_alone_lem s'.ground.legal (fresh_sound d.letters) q hq)
    ∙ steps_fixed c s.ground.legal φ q n
    ∙ ap (λ (a : Alone). steps_alone c r a n) (sym (start_alone_lem s.ground.legal (fresh_sound c.letters) r hr)))

-- demand 3, for every interface that keeps its laws
pub order_makes_no_difference : {Source R : Type 0} {K : Interface Source R} → Lawful K → OrderMakesNoDifference K
unfolding OrderMakesNoDifference
order_makes_no_difference {R = R} {K} L s fixed-one c φ cell cell' size first reached p stands =
    let x = reached_stands L s c cell reached stands in
    let at = x.1 in (
      not_refused L fixed-one (fixed φ c) cell' (fixing_keeps_start_within φ c at.ground.legal (begun_within L s c cell reached.begun))
          (start_ground φ c at.ground).fits p (steps_admitted φ c at.ground at.trace p at.time at.rests),
      λ second again there n q hn hq number value change number' value' change' asked asked'.
          let x' = reached_stands L fixed-one (fixed φ c) cell' again there in
          let at' = x'.1 in
          let nodes : length (fixed φ c).nodes ≡ length c.nodes = (fixed_alike φ c).wired.count_same in
          let same = same_state φ c at at' q hq in
          let a = keeps_tells L fixed-one (fixed φ c) cell' (trace_ground at'.ground at'.trace) x'.2 q (rw (fixed_letters φ c) hq) n (omega arith) number value change asked in
          let b = keeps_tells L s c cell (trace_ground at.ground at.trace) x.2 (fixed_pattern φ c.letters q) (pattern_lt φ c.letters c.letters q (omega arith) hq) n hn number' value' change' asked' in (
            a.0,
            b.0,
            a.1 ∙ ap (λ (st : State). value_at st n) same ∙ sym b.1,
            a.2 ∙ ap (λ (st : State). change_at st n) same ∙ sym b.2,
          ),
    )
