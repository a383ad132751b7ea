-- What a run holds for one pattern: the run of that pattern alone, by the rules for one pattern and its own times. Without letters all
-- patterns step together.
use mathlib.Core.Path.{◌≡◌, refl, sym, ◌∙◌, ap, ap₂, subst}
use mathlib.Core.Logic.{⊎_elim}
use mathlib.Core.Bool.{Bool, true, not}
use Prim.Native.Nat.{ℕ, zero, suc, ◌%◌, ◌^◌, ◌≤◌, ◌<◌}
use native.Mathlib.Nat.{zero-div}
use native.Mathlib.Omega.{arith}
use lib.Pow.{pow_pos}
use Rattle.lists.specs.Tests.{below}
use Rattle.lists.proofs.Below.{below_each, each_below}
use Rattle.lists.proofs.Cases.{lt_or_ge, bool_ext}
use Rattle.refusal.specs.Answer.{answered}
use Rattle.format.specs.Circuit.{Circuit}
use Rattle.format.specs.Legal.{check_circuit}
use Rattle.format.specs.Fixing.{free, low, Fixing, fixed, without_letters}
use Rattle.format.proofs.Fixing.{free_fixing, without_letters_fixed, fully_fixed_without_letters}
use Rattle.diagram.specs.Pattern.{patterns, letter_at}
use Rattle.diagram.specs.Table.{Table, never}
use Rattle.diagram.proofs.Sound.{Sound}
use Rattle.diagram.proofs.Pattern.{pattern_ext}
use Rattle.rules.specs.State.{State}
use Rattle.rules.specs.Step.{started, start_exceeds, stepped, step_exceeds}
use Rattle.rules.specs.Run.{pattern_time, Moment, start_moment, time_after, step_moment, start_within, step_within}
use Rattle.rules.proofs.Step.{legal_horizon}
use Rattle.rules.proofs.Time.{legal_times, pattern_later, keeps_before, next_own, next_least}
use Rattle.rules.proofs.Moment.{SoundMoment, start_time, step_time_lem, start_state, moment_states, time_within, step_state, step_sound}
use Rattle.commute.specs.Demand.{fixed_pattern}
use Rattle.commute.specs.Alone.{Alone, own_time, start_alone, step_alone, steps_alone}
use Rattle.commute.proofs.Fixed.{pattern_lt, pattern_letter, pattern_time_fixed, started_fixed, stepped_fixed, start_exceeds_fixed, step_exceeds_fixed}
use Rattle.commute.proofs.Trace.{Ground, Trace, begun, stepped as next, trace_sound}
use Rattle.commute.proofs.Together.{pattern_from, state_at}

-- what a moment holds for a pattern
abbrev pub alone_at : Circuit → Moment → ℕ → Alone
alone_at c m p = record { time = m.run.time; state = state_at c m p }

pub alone_is : {time time' : ℕ} {state state' : State} → time ≡ time' → state ≡ state'
    → ◌≡◌ {A = Alone} (record { time = time; state = state }) (record { time = time'; state = state' })
alone_is p q = λ i. record { time = p i; state = q i }

-- a start holds the start of each pattern
pub start_alone_lem : {c : Circuit} → check_circuit c ≡ answered c → {t : Table} → Sound c.letters t → (p : ℕ) → p < patterns c.letters → alone_at c (start_moment c t) p ≡ start_alone c p
start_alone_lem {c} legal {t} s p h = alone_is (start_time c t) (start_state legal s p h)

-- a moment reads at a pattern as a moment of its run alone: the last that is not later
pub record Reads (c : Circuit) (m : Moment) (p : ℕ) (a : Alone) : Type 0 where
  pub state : state_at c m p ≡ a.state
  pub behind : a.time ≤ m.run.time
  pub last : m.run.time < own_time c a

-- what is due for the pattern alone is due for it in the moment
pub reads_own : {c : Circuit} {m : Moment} {p : ℕ} {a : Alone} → Reads c m p a → own_time c a ≡ pattern_time c m.run.time (state_at c m p)
reads_own {c} {m} {p} {a} r =
    pattern_from c a.time m.run.time a.state r.behind r.last ∙ ap (pattern_time c m.run.time) (sym r.state)

module _ (c : Circuit) (legal : check_circuit c ≡ answered c) where
  -- nothing that is due for a pattern of a sound moment is past
  own_later : {m : Moment} → SoundMoment c m → (p : ℕ) → p < patterns c.letters → m.run.time < pattern_time c m.run.time (state_at c m p)
  own_later {m} s p h =
      let states = moment_states legal s in
      ⊎_elim
      (λ (e : pattern_time c m.run.time (state_at c m p) ≡ never). omega (arith, s.run.time_most, legal_horizon legal))
      (λ (l : (m.run.time < pattern_time c m.run.time (state_at c m p)) × (pattern_time c m.run.time (state_at c m p) ≤ c.horizon.0)). l.0)
      (pattern_later c m.run.time (state_at c m p) (states.shaped p h) (states.pending p h) (legal_times legal))

  -- a moment that reads so at its own time
  reads_now : {m : Moment} → SoundMoment c m → (p : ℕ) → p < patterns c.letters → (a : Alone) → state_at c m p ≡ a.state → a.time ≡ m.run.time → Reads c m p a
  reads_now {m} s p h a same now = record {
    state = same;
    behind = omega arith;
    last = subst (λ (t : ℕ). m.run.time < t) (ap₂ (pattern_time c) (sym now) same) (own_later s p h);
  }

  -- a step to T: the pattern alone steps too where T is its own time, and rests where its own is later
  reads_step : {m : Moment} → SoundMoment c m → time_after c m < never → (p : ℕ) → p < patterns c.letters → (a₀ : Alone) (n : ℕ) → Reads c m p (steps_alone c p a₀ n)
      → (k : ℕ) × Reads c (step_moment c m) p (steps_alone c p a₀ k)
  unfolding steps_alone time_after
  reads_step {m} s more p h a₀ n r =
      let a : Alone = steps_alone c p a₀ n in
      let time : ℕ = time_after c m in
      let own = reads_own r in
      let least : time ≤ pattern_time c m.run.time (state_at c m p) = next_least c m.run.time (state_at c m) p h in
      let now : m.run.time < time = (time_within legal s more).0 in
      ⊎_elim
      (λ (l : time < own_time c a). (
        n,
        record {
          state = step_state legal s p h
              ∙ keeps_before c m.run.time (state_at c m p) ((moment_states legal s).shaped p h) time p now (omega arith)
              ∙ r.state;
          behind = omega (arith, r.behind, step_time_lem c m);
          last = omega (arith, step_time_lem c m);
        },
      ))
      (λ (l : own_time c a ≤ time).
      let same : time ≡ own_time c a = omega arith in (
        suc n,
        reads_now (step_sound legal s more) p h (steps_alone c p a₀ (suc n))
            (step_state legal s p h ∙ ap₂ (λ (t : ℕ) (x : State). stepped c t p x) same r.state) (sym same ∙ sym (step_time_lem c m)),
      ))
      (lt_or_ge time (own_time c a))

  -- the run of a pattern of the fixed cell is the cell's for the pattern with the letters fixed
  pub steps_fixed : (φ : Fixing) (q n : ℕ) → steps_alone (fixed φ c) q (start_alone (fixed φ c) q) n ≡ steps_alone c (fixed_pattern φ c.letters q) (start_alone c (fixed_pattern φ c.letters q)) n
  unfolding steps_alone
  steps_fixed φ q zero = alone_is refl (started_fixed φ c legal q)
  steps_fixed φ q (suc n) =
      let p : ℕ = fixed_pattern φ c.letters q in
      let a : Alone = steps_alone (fixed φ c) q (start_alone (fixed φ c) q) n in
      alone_is (pattern_time_fixed φ c a.time a.state)
      (stepped_fixed φ c legal (own_time (fixed φ c) a) q a.state ∙ ap (λ (t : ℕ). stepped c t p a.state) (pattern_time_fixed φ c a.time a.state))
      ∙ ap (step_alone c p) (steps_fixed φ q n)

-- each moment of a run reads at each pattern as the run of that pattern alone
pub reads_alone : {c : Circuit} {size : ℕ} {from m : Moment} → Ground c size from → Trace c size from m → (p : ℕ) → p < patterns c.letters
    → (n : ℕ) × Reads c m p (steps_alone c p (alone_at c from p) n)
unfolding steps_alone
reads_alone {c} {from = from} g begun p h = (0, reads_now c g.legal g.sound p h (alone_at c from p) refl refl)
reads_alone {c} {from = from} g (next {m = m} t more admitted) p h =
    let deeper : (n : ℕ) × Reads c m p (steps_alone c p (alone_at c from p) n) = reads_alone g t p h in
    reads_step c g.legal (trace_sound g t) more p h (alone_at c from p) deeper.0 deeper.1

-- a test that gives the same at every number below a bound
below_same : (n : ℕ) (test : ℕ → Bool) (b : Bool) (p : ℕ) → p < n → ((r : ℕ) → r < n → test r ≡ b) → below n test ≡ b
below_same n test b p h same =
    bool_ext (below n test) b (λ e. sym (same p h) ∙ below_each n test e p h) (λ e. each_below n test (λ r hr. same r hr ∙ e))

-- the fixing that sets every letter low
abbrev all_low : Fixing
all_low k = low

all_low_lem : (letters q : ℕ) → q < patterns letters → fixed_pattern all_low letters q ≡ 0
all_low_lem letters q h =
    pattern_ext letters (fixed_pattern all_low letters q) 0 (pattern_lt all_low letters letters q (omega arith) h) (pow_pos letters)
    (λ k l. pattern_letter all_low letters q k l ∙ sym (letter_of_zero k))
  where
    letter_of_zero : (k : ℕ) → letter_at k 0 ≡ 0
    letter_of_zero k = ap (λ (x : ℕ). x % 2) (zero-div (2 ^ k))

-- all patterns of a moment hold the same
abbrev pub AlikeAt : Circuit → Moment → Type 0
AlikeAt c m = (p q : ℕ) → p < patterns c.letters → q < patterns c.letters → alone_at c m p ≡ alone_at c m q

module _ (c : Circuit) (legal : check_circuit c ≡ answered c) (plain : without_letters c ≡ true) where
  -- the rules give every pattern of a cell without letters the same
  each_same : {A : Type 0} (f : Circuit → ℕ → A) → ((q : ℕ) → f (fixed all_low c) q ≡ f c (fixed_pattern all_low c.letters q))
      → (p q : ℕ) → p < patterns c.letters → q < patterns c.letters → f c p ≡ f c q
  each_same f e p q hp hq = at_zero p hp ∙ sym (at_zero q hq)
    where
      at_zero : (r : ℕ) → r < patterns c.letters → f c r ≡ f c 0
      at_zero r h = ap (λ (d : Circuit). f d r) (sym (without_letters_fixed all_low c plain)) ∙ e r ∙ ap (f c) (all_low_lem c.letters r h)

  -- in a step too, from what is the same
  step_same : {A : Type 0} (f : Circuit → ℕ → ℕ → State → A) → ((time q : ℕ) (s : State) → f (fixed all_low c) time q s ≡ f c time (fixed_pattern all_low c.letters q) s)
      → {a b : Alone} → a ≡ b → (p q : ℕ) → p < patterns c.letters → q < patterns c.letters → f c (own_time c a) p a.state ≡ f c (own_time c b) q b.state
  step_same f e {a} same p q hp hq =
      each_same (λ (d : Circuit) (r : ℕ). f d (own_time c a) r a.state) (λ r. e (own_time c a) r a.state) p q hp hq
      ∙ ap (λ (x : Alone). f c (own_time c x) q x.state) same

  -- the start in any sound table is that of the rules, the same at every pattern
  pub plain_start : {t : Table} → Sound c.letters t → AlikeAt c (start_moment c t)
  plain_start s p q hp hq =
      start_alone_lem legal s p hp
      ∙ alone_is refl (each_same started (started_fixed all_low c legal) p q hp hq)
      ∙ sym (start_alone_lem legal s q hq)

  -- it is within the ceiling exactly if the start by the rules for one pattern is
  pub plain_start_within : (p : ℕ) → p < patterns c.letters → start_within c ≡ not (start_exceeds c p)
  unfolding start_within
  plain_start_within p h = below_same (patterns c.letters) _ _ p h (λ r hr. ap not (each_same start_exceeds (start_exceeds_fixed all_low c legal) r p hr h))

  module _ {m : Moment} (s : SoundMoment c m) (alike : AlikeAt c m) where
    -- T is every pattern's own time
    pub plain_time : (p : ℕ) → p < patterns c.letters → time_after c m ≡ own_time c (alone_at c m p)
    unfolding time_after
    plain_time p h =
        let own = next_own c m.run.time (state_at c m) in
        own.2 ∙ ap (own_time c) (alike own.0 p own.1 h)

    -- the step is that of the rules for one pattern
    pub plain_step : (p : ℕ) → p < patterns c.letters → alone_at c (step_moment c m) p ≡ step_alone c p (alone_at c m p)
    plain_step p h =
        alone_is (step_time_lem c m ∙ plain_time p h)
        (step_state legal s p h ∙ ap (λ (time : ℕ). stepped c time p (state_at c m p)) (plain_time p h))

    -- and leaves all patterns alike
    pub plain_alike : AlikeAt c (step_moment c m)
    plain_alike p q hp hq =
        let same : alone_at c m p ≡ alone_at c m q = alike p q hp hq in
        plain_step p hp
        ∙ alone_is (ap (own_time c) same)
        (step_same stepped (stepped_fixed all_low c legal) same p q hp hq)
        ∙ sym (plain_step q hq)

    -- it is within the ceiling exactly if that step of the rules is
    pub plain_step_within : (p : ℕ) → p < patterns c.letters → step_within c m ≡ not (step_exceeds c (own_time c (alone_at c m p)) p (state_at c m p))
    unfolding step_within
    plain_step_within p h =
        below_same (patterns c.letters) _ _ p h
        (λ r hr.
        ap (λ (time : ℕ). not (step_exceeds c time r (state_at c m r))) (plain_time r hr)
        ∙ ap not (step_same step_exceeds (step_exceeds_fixed all_low c legal) (alike r p hr h) r p hr h))

  -- so its run is, step for step and at every pattern, the run by the rules for one pattern
  pub plain_steps : {size : ℕ} {from m : Moment} → Ground c size from → AlikeAt c from → Trace c size from m
      → AlikeAt c m × (n : ℕ) × ((p : ℕ) → p < patterns c.letters → alone_at c m p ≡ steps_alone c p (alone_at c from p) n)
  unfolding steps_alone
  plain_steps g alike begun = (alike, 0, λ p h. refl)
  plain_steps {from = from} g alike (next {m = m} t more admitted) =
      let deeper : AlikeAt c m × (n : ℕ) × ((p : ℕ) → p < patterns c.letters → alone_at c m p ≡ steps_alone c p (alone_at c from p) n) = plain_steps g alike t in
      let s = trace_sound g t in (
        plain_alike s deeper.0,
        suc deeper.1,
        λ p h. plain_step s deeper.0 p h ∙ ap (step_alone c p) (deeper.2 p h),
      )

-- a cell of no letters is without letters
pub none_plain : (c : Circuit) → check_circuit c ≡ answered c → c.letters ≡ 0 → without_letters c ≡ true
none_plain c legal none =
    subst (λ (d : Circuit). without_letters d ≡ true) (free_fixing c) (fully_fixed_without_letters (λ k. free) c legal (λ k h. absurd (omega arith)))

-- and its one pattern is like itself
pub none_alike : (c : Circuit) → c.letters ≡ 0 → (m : Moment) → AlikeAt c m
none_alike c none m p q hp hq =
    let one : patterns c.letters ≡ 1 = ap patterns none in
    ap (alone_at c m) (omega arith)
