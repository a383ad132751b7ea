-- The steps of a pattern's run after a moment: each takes time on and none is past the horizon, so the allowance is enough.
use mathlib.Core.Path.{◌≡◌, refl, ◌∙◌, ap}
use mathlib.Core.Logic.{⊎_elim}
use mathlib.Core.Bool.{true, ◌&&◌, cond}
use mathlib.Core.List.{[], ◌++◌}
use Prim.Native.Nat.{ℕ, zero, suc, ◌+◌, ◌-◌, ◌≤◌, ◌<◌}
use native.Mathlib.Omega.{arith}
use lib.Dec.{ltb}
use borrow.Author.Tests.{lt-ltb, le-ltb}
use Rattle.refusal.specs.Answer.{answered}
use Rattle.lists.proofs.Cases.{lt_or_ge}
use Rattle.format.specs.Circuit.{Circuit}
use Rattle.format.specs.Legal.{check_circuit}
use Rattle.diagram.specs.Table.{never}
use Rattle.rules.proofs.State.{Shaped, Bits, Pending}
use Rattle.rules.proofs.Step.{Later, legal_horizon, started_shaped, started_bits, started_pending, stepped_shaped, stepped_bits, stepped_pending}
use Rattle.rules.proofs.Time.{legal_times, pattern_later, none_before}
use Rattle.commute.specs.Alone.{Alone, own_time, start_alone, step_alone}
use Rattle.vcd.specs.Dump.{over_steps, steps_left, step_lines, step_within, lines_after, within_after}

-- a moment of a pattern's run
pub record Going (c : Circuit) (a : Alone) : Type 0 where
  pub shaped : Shaped c a.state
  pub bits : Bits c a.state
  pub pending : Pending c a.time a.state
  pub by : a.time ≤ c.horizon.0

module _ {c : Circuit} (legal : check_circuit c ≡ answered c) where
  -- the next time is after the moment and not past the horizon, or never
  pub own_later : {a : Alone} → Going c a → Later c a.time (own_time c a)
  own_later {a} g = pattern_later c a.time a.state g.shaped g.pending (legal_times legal)

  pub own_within : {a : Alone} → Going c a → own_time c a < never → (a.time < own_time c a) × (own_time c a ≤ c.horizon.0)
  own_within {a} g more =
      ⊎_elim
      (λ (e : own_time c a ≡ never). absurd (omega arith))
      (λ (l : (a.time < own_time c a) × (own_time c a ≤ c.horizon.0)). l)
      (own_later g)

  -- the start is such a moment
  pub start_going : (p : ℕ) → Going c (start_alone c p)
  start_going p = record {
    shaped = started_shaped c p;
    bits = started_bits c p;
    pending = started_pending c p;
    by = omega arith;
  }

  -- and so is each step's
  pub step_going : (p : ℕ) {a : Alone} → Going c a → own_time c a < never → Going c (step_alone c p a)
  step_going p {a} g more =
      let w = own_within g more in
      record {
        shaped = stepped_shaped c (own_time c a) p a.state;
        bits = stepped_bits c (own_time c a) p a.state g.bits;
        pending = stepped_pending c (own_time c a) p a.state a.time (legal_horizon legal) g.pending w.1
            (none_before c a.time a.state g.shaped (own_time c a) g.pending (omega arith));
        by = w.1;
      }

  -- allowances that reach the horizon gather the same
  pub steps_enough : {A : Type 0} (gather : Alone → A → A) (none : A) (p j k : ℕ) {a : Alone} → Going c a → c.horizon.0 ≤ a.time + j → c.horizon.0 ≤ a.time + k
      → over_steps gather none j c p a ≡ over_steps gather none k c p a
  unfolding over_steps
  steps_enough gather none p zero zero g hj hk = refl
  steps_enough gather none p zero (suc k) {a} g hj hk =
      ⊎_elim
      (λ (more : own_time c a < never). absurd (omega (arith, own_within g more)))
      (λ (end : never ≤ own_time c a). rw (le-ltb (own_time c a) never end))
      (lt_or_ge (own_time c a) never)
  steps_enough gather none p (suc j) zero {a} g hj hk =
      ⊎_elim
      (λ (more : own_time c a < never). absurd (omega (arith, own_within g more)))
      (λ (end : never ≤ own_time c a). rw (le-ltb (own_time c a) never end))
      (lt_or_ge (own_time c a) never)
  steps_enough {A} gather none p (suc j) (suc k) {a} g hj hk =
      ⊎_elim
      (λ (more : own_time c a < never).
      let w = own_within g more in
      ap (λ (x : A). cond (ltb (own_time c a) never) (gather a x) none) (steps_enough gather none p j k (step_going p g more) (omega arith) (omega arith)))
      (λ (end : never ≤ own_time c a). rw (le-ltb (own_time c a) never end))
      (lt_or_ge (own_time c a) never)

  module _ {A : Type 0} (gather : Alone → A → A) (none : A) (p : ℕ) {a : Alone} (g : Going c a) where
    -- where there is a step it comes first
    pub over_more : own_time c a < never
        → over_steps gather none (steps_left c a) c p a ≡ gather a (over_steps gather none (steps_left c (step_alone c p a)) c p (step_alone c p a))
    unfolding over_steps
    over_more more =
        let w = own_within g more in
        let rest : over_steps gather none (c.horizon.0 - a.time - 1) c p (step_alone c p a) ≡ over_steps gather none (c.horizon.0 - own_time c a) c p (step_alone c p a) =
        steps_enough gather none p (c.horizon.0 - a.time - 1) (c.horizon.0 - own_time c a) (step_going p g more) (omega arith) (omega arith) in
        let left : c.horizon.0 - a.time ≡ suc (c.horizon.0 - a.time - 1) = omega arith in
        ap (λ (k : ℕ). over_steps gather none k c p a) left ∙ first (c.horizon.0 - a.time - 1) ∙ ap (gather a) rest
      where
        first : (k : ℕ) → over_steps gather none (suc k) c p a ≡ gather a (over_steps gather none k c p (step_alone c p a))
        first k = rw (lt-ltb (own_time c a) never more)

    -- where there is none, nothing is gathered
    pub over_none : never ≤ own_time c a → over_steps gather none (steps_left c a) c p a ≡ none
    unfolding over_steps
    over_none end = past (steps_left c a)
      where
        past : (k : ℕ) → over_steps gather none k c p a ≡ none
        past zero = refl
        past (suc k) = rw (le-ltb (own_time c a) never end)

  -- the lines after a moment, and whether the steps stay within the ceiling
  module _ (p : ℕ) {a : Alone} (g : Going c a) where
    pub lines_more : own_time c a < never → lines_after c p a ≡ step_lines c p a ++ lines_after c p (step_alone c p a)
    unfolding lines_after
    lines_more more = over_more _ _ p g more

    pub lines_none : never ≤ own_time c a → lines_after c p a ≡ []
    unfolding lines_after
    lines_none end = over_none _ _ p g end

    pub within_more : own_time c a < never → within_after c p a ≡ (step_within c p a && within_after c p (step_alone c p a))
    unfolding within_after
    within_more more = over_more _ _ p g more

    pub within_none : never ≤ own_time c a → within_after c p a ≡ true
    unfolding within_after
    within_none end = over_none _ _ p g end
