-- The runs of a cell and of the fixed cell, side by side: a moment of the first and the fixed one's moment abreast of it.
use mathlib.Core.Path.{◌≡◌, refl, sym, ◌∙◌, ap, ap₂}
use mathlib.Core.Logic.{⊎_elim}
use mathlib.Core.Bool.{Bool, true, not, cond}
use mathlib.Core.List.{List, [], ◌∷◌, map}
use Prim.Native.Nat.{ℕ, ◌≤◌, ◌<◌, min}
use native.Mathlib.Omega.{arith}
use lib.Dec.{ltb}
use borrow.Author.Tests.{lt-ltb, le-ltb}
use Rattle.lists.specs.Tests.{below}
use Rattle.lists.proofs.Below.{below_each, each_below}
use Rattle.lists.proofs.Cases.{lt_or_ge}
use Rattle.refusal.specs.Answer.{answered}
use Rattle.format.specs.declared.Entry.{Entry}
use Rattle.format.specs.Circuit.{Circuit}
use Rattle.format.specs.Legal.{check_circuit}
use Rattle.format.specs.Fixing.{Fixing, fixed}
use Rattle.format.proofs.Fixing.{fixed_legal}
use Rattle.diagram.specs.Pattern.{most_letters, patterns}
use Rattle.diagram.specs.Table.{Table, never}
use Rattle.diagram.specs.Store.{fresh}
use Rattle.diagram.proofs.Sound.{Sound}
use Rattle.diagram.proofs.Calls.{fresh_sound}
use Rattle.rules.specs.State.{State, value_at, change_at, node_numbers}
use Rattle.rules.specs.Step.{started, start_exceeds, stepped, step_exceeds}
use Rattle.rules.specs.Run.{soonest, pattern_time, Moment, state_of, store_all, moment_of, start_moment, time_after, step_moment, start_within, step_within}
use Rattle.rules.proofs.StoreAll.{all_stored}
use Rattle.rules.proofs.Time.{keeps_before, next_own, next_least}
use Rattle.rules.proofs.Moment.{SoundMoment, moment_ext, start_time, stepped_states, step_time_lem, legal_few, start_state, moment_states, time_within, step_state, step_extends}
use Rattle.commute.specs.Demand.{fixed_pattern}
use Rattle.rules.proofs.Wiring.{numbers_alike}
use Rattle.commute.proofs.Fixed.{fixed_alike, pattern_lt, pattern_time_fixed, started_fixed, stepped_fixed, start_exceeds_fixed, step_exceeds_fixed}
use Rattle.commute.proofs.Cover.{Covered, covered_extends, covered_all, covered_fresh}

-- a later now that is before the soonest time leaves the soonest time
soonest_from : (now time : ℕ) (times : List ℕ) → now ≤ time → time < soonest now times → soonest now times ≡ soonest time times
unfolding soonest
soonest_from now time [] le h = refl
soonest_from now time (t ∷ ts) le h =
    let rest : soonest now ts ≡ soonest time ts = soonest_from now time ts le (omega arith) in
    ⊎_elim
    (λ (l : now < t).
    let own : cond (ltb now t) t never ≡ t = ap (λ (b : Bool). cond b t never) (lt-ltb now t l) in
    rw (lt-ltb now t l, lt-ltb time t (omega arith), rest))
    (λ (l : t ≤ now). rw (le-ltb now t l, le-ltb time t (omega arith), rest))
    (lt_or_ge now t)

pub pattern_from : (c : Circuit) (now time : ℕ) (s : State) → now ≤ time → time < pattern_time c now s → pattern_time c now s ≡ pattern_time c time s
unfolding pattern_time
pattern_from c now time s le h =
    let times : List ℕ = map (λ (e : Entry). e.time.0) c.schedule in
    ap₂ min (soonest_from now time s.changes le (omega arith)) (soonest_from now time times le (omega arith))

-- the table of a moment: all values, then all next changes
abbrev table_after : ℕ → List ℕ → (ℕ → State) → Table → Table
table_after letters ns states t =
    (store_all letters (map (λ (n : ℕ) (p : ℕ). change_at (states p) n) ns) (store_all letters (map (λ (n : ℕ) (p : ℕ). value_at (states p) n) ns) t).table).table

moment_table : (c : Circuit) (time : ℕ) (states : ℕ → State) (t : Table) → (moment_of c time states t).table ≡ table_after c.letters (node_numbers c) states t
unfolding moment_of
moment_table c time states t = refl

module _ (φ : Fixing) (c : Circuit) where
  abbrev under : ℕ → ℕ
  under q = fixed_pattern φ c.letters q

  -- the same letters
  pub fixed_letters : (fixed φ c).letters ≡ c.letters
  unfolding fixed
  fixed_letters = refl

  -- records of states and of the fixed states, in a table and one that it covers
  covered_moment : c.letters ≤ most_letters → (time' time : ℕ) (states' states : ℕ → State) (t' t : Table)
      → Sound c.letters t' → Sound c.letters t → Covered φ c.letters t' t
      → ((q : ℕ) → q < patterns c.letters → states' q ≡ states (under q))
      → Covered φ c.letters (moment_of (fixed φ c) time' states' t').table (moment_of c time states t).table
  covered_moment few time' time states' states t' t s' s cov same =
      let ns : List ℕ = node_numbers c in
      let f : ℕ → ℕ → ℕ = λ n p. value_at (states p) n in
      let g : ℕ → ℕ → ℕ = λ n p. change_at (states p) n in
      let fφ : ℕ → ℕ → ℕ = λ n q. value_at (states (under q)) n in
      let is : (moment_of (fixed φ c) time' states' t').table ≡ table_after c.letters ns (λ q. states (under q)) t' =
      ap (λ (m : Moment). m.table) (moment_ext (fixed φ c) time' states' (λ q. states (under q)) t' (λ q h. same q (rw (← fixed_letters) h)))
      ∙ moment_table (fixed φ c) time' (λ q. states (under q)) t'
      ∙ ap₂ (λ (k : ℕ) (xs : List ℕ). table_after k xs (λ q. states (under q)) t') fixed_letters (numbers_alike (fixed_alike φ c).wired) in
      rw (is, moment_table c time states t)
      (covered_all φ few g ns (store_all c.letters (map fφ ns) t').table (store_all c.letters (map f ns) t).table
      (all_stored (map fφ ns) t' few s').sound (all_stored (map f ns) t few s).sound
      (covered_all φ few f ns t' t s' s cov))

-- the state of a pattern at a moment
abbrev pub state_at : Circuit → Moment → ℕ → State
state_at c m p = state_of c m.table m.run p

-- m' of the fixed cell stands abreast of m of the cell
pub record Abreast (φ : Fixing) (c : Circuit) (m m' : Moment) : Type 0 where
  -- the states are the first's with the letters fixed
  pub states : (q : ℕ) → q < patterns c.letters → state_at (fixed φ c) m' q ≡ state_at c m (fixed_pattern φ c.letters q)
  -- it is not ahead, and where it is behind nothing was due between
  pub behind : m'.run.time ≤ m.run.time
  pub due : (q : ℕ) → q < patterns c.letters
      → pattern_time c m'.run.time (state_at c m (fixed_pattern φ c.letters q)) ≡ pattern_time c m.run.time (state_at c m (fixed_pattern φ c.letters q))
  pub covered : Covered φ c.letters m'.table m.table

module _ (φ : Fixing) (c : Circuit) (legal : check_circuit c ≡ answered c) where
  abbrev few : c.letters ≤ most_letters
  few = legal_few legal

  abbrev pub legal' : check_circuit (fixed φ c) ≡ answered (fixed φ c)
  legal' = fixed_legal φ c legal

  -- a pattern of the cell is one of the fixed cell, and fixed it is one of the cell
  pattern_fixed : (q : ℕ) → q < patterns c.letters → q < patterns (fixed φ c).letters
  unfolding fixed
  pattern_fixed q h = h

  fixed_pattern_lem : (q : ℕ) → q < patterns c.letters → under φ c q < patterns c.letters
  fixed_pattern_lem q h = pattern_lt φ c.letters c.letters q (omega arith) h

  pub sound_table : {m : Moment} → SoundMoment (fixed φ c) m → Sound c.letters m.table
  unfolding fixed
  sound_table s = s.table

  -- what exceeds at no pattern of the cell exceeds at none of the fixed cell, whose patterns are some of the cell's
  none_fixed : (test test' : ℕ → Bool) → ((q : ℕ) → q < patterns c.letters → test' q ≡ test (under φ c q))
      → below (patterns c.letters) (λ p. not (test p)) ≡ true → below (patterns (fixed φ c).letters) (λ q. not (test' q)) ≡ true
  unfolding fixed
  none_fixed test test' same e =
      each_below (patterns c.letters) (λ q. not (test' q))
      (λ q h. ap not (same q h) ∙ below_each (patterns c.letters) (λ p. not (test p)) e (under φ c q) (fixed_pattern_lem q h))

  -- so fixing letters never brings refusal 11 to a start
  pub fixing_keeps_start_within : start_within c ≡ true → start_within (fixed φ c) ≡ true
  unfolding start_within
  fixing_keeps_start_within e = none_fixed (start_exceeds c) (start_exceeds (fixed φ c)) (λ q h. start_exceeds_fixed φ c legal q) e

  -- the two starts are abreast
  pub start_abreast : Abreast φ c (start_moment c fresh) (start_moment (fixed φ c) fresh)
  unfolding start_moment
  start_abreast =
      let t : Sound c.letters fresh = fresh_sound c.letters in
      let t' : Sound (fixed φ c).letters fresh = fresh_sound (fixed φ c).letters in
      let same : (start_moment (fixed φ c) fresh).run.time ≡ (start_moment c fresh).run.time = start_time (fixed φ c) fresh ∙ sym (start_time c fresh) in
      record {
        states = λ q h. start_state legal' t' q (pattern_fixed q h) ∙ started_fixed φ c legal q ∙ sym (start_state legal t (under φ c q) (fixed_pattern_lem q h));
        behind = omega arith;
        due = λ q h. ap (λ (now : ℕ). pattern_time c now (state_at c (start_moment c fresh) (under φ c q))) same;
        covered = covered_moment φ c few 0 0 (started (fixed φ c)) (started c) fresh fresh t t (covered_fresh φ few) (λ q h. started_fixed φ c legal q);
      }

  module _ {m m' : Moment} (a : Abreast φ c m m') where
    -- what is due for a pattern of the fixed cell
    own_time_lem : (q : ℕ) → q < patterns c.letters → pattern_time (fixed φ c) m'.run.time (state_at (fixed φ c) m' q) ≡ pattern_time c m.run.time (state_at c m (under φ c q))
    own_time_lem q h =
        pattern_time_fixed φ c m'.run.time (state_at (fixed φ c) m' q)
        ∙ ap (pattern_time c m'.run.time) (a.states q h)
        ∙ a.due q h

    -- the fixed cell's next time is not before the cell's
    pub next_abreast : time_after c m ≤ time_after (fixed φ c) m'
    unfolding time_after fixed
    next_abreast =
        let own = next_own (fixed φ c) m'.run.time (state_at (fixed φ c) m') in
        let q : ℕ = own.0 in
        omega (arith, own.2, own_time_lem q own.1, next_least c m.run.time (state_at c m) (under φ c q) (fixed_pattern_lem q own.1))

    -- and not after that of any of its patterns
    pub next_before : (q : ℕ) → q < patterns c.letters → time_after (fixed φ c) m' ≤ pattern_time c m.run.time (state_at c m (under φ c q))
    unfolding time_after fixed
    next_before q h = omega (arith, own_time_lem q h, next_least (fixed φ c) m'.run.time (state_at (fixed φ c) m') q (pattern_fixed q h))

    -- the same next time: what the rules give in the fixed cell's step at a pattern they give in the cell's at the pattern with the letters fixed
    same_step : time_after (fixed φ c) m' ≡ time_after c m → {A : Type 0} (f : Circuit → ℕ → ℕ → State → A) → ((time q : ℕ) (x : State) → f (fixed φ c) time q x ≡ f c time (under φ c q) x)
        → (q : ℕ) → q < patterns c.letters → f (fixed φ c) (time_after (fixed φ c) m') q (state_at (fixed φ c) m' q) ≡ f c (time_after c m) (under φ c q) (state_at c m (under φ c q))
    same_step same f e q h =
        e (time_after (fixed φ c) m') q (state_at (fixed φ c) m' q) ∙ ap₂ (λ (time : ℕ) (x : State). f c time (under φ c q) x) same (a.states q h)

    -- so fixing letters never brings refusal 11 to a step that the cell takes too
    pub fixing_keeps_step_within : time_after (fixed φ c) m' ≡ time_after c m → step_within c m ≡ true → step_within (fixed φ c) m' ≡ true
    unfolding step_within
    fixing_keeps_step_within same e =
        none_fixed (λ p. step_exceeds c (time_after c m) p (state_at c m p)) _ (same_step same step_exceeds (step_exceeds_fixed φ c legal)) e

    module _ (s : SoundMoment c m) (s' : SoundMoment (fixed φ c) m') (more : time_after c m < never) where
      -- the same next time: both step
      pub both_step : time_after (fixed φ c) m' ≡ time_after c m → Abreast φ c (step_moment c m) (step_moment (fixed φ c) m')
      unfolding step_moment
      both_step same =
          let d : Circuit = fixed φ c in
          let times : (step_moment d m').run.time ≡ (step_moment c m).run.time = step_time_lem d m' ∙ same ∙ sym (step_time_lem c m) in
          let states : (q : ℕ) → q < patterns c.letters → stepped_states d m' q ≡ stepped_states c m (under φ c q) =
          same_step same stepped (stepped_fixed φ c legal) in
          record {
            states = λ q h. step_state legal' s' q (pattern_fixed q h) ∙ states q h ∙ sym (step_state legal s (under φ c q) (fixed_pattern_lem q h));
            behind = omega arith;
            due = λ q h. ap (λ (now : ℕ). pattern_time c now (state_at c (step_moment c m) (under φ c q))) times;
            covered = covered_moment φ c few (time_after d m') (time_after c m) (stepped_states d m') (stepped_states c m) m'.table m.table (sound_table s') s.table a.covered states;
          }

      -- a later next time of the fixed cell: the first's step leaves its patterns alone
      pub first_steps : time_after c m < time_after (fixed φ c) m' → Abreast φ c (step_moment c m) m'
      first_steps after =
          let time : ℕ = time_after c m in
          let now : ℕ = m.run.time in
          let within = time_within legal s more in
          let own : (q : ℕ) → q < patterns c.letters → time < pattern_time c now (state_at c m (under φ c q)) = λ q h. omega (arith, next_before q h) in
          let kept : (q : ℕ) → q < patterns c.letters → state_at c (step_moment c m) (under φ c q) ≡ state_at c m (under φ c q) =
          λ q h. step_state legal s (under φ c q) (fixed_pattern_lem q h)
          ∙ keeps_before c now (state_at c m (under φ c q)) ((moment_states legal s).shaped (under φ c q) (fixed_pattern_lem q h)) time (under φ c q) within.0 (own q h) in
          record {
            states = λ q h. a.states q h ∙ sym (kept q h);
            behind = omega (arith, a.behind, step_time_lem c m, within.0);
            due = λ q h.
                ap (pattern_time c m'.run.time) (kept q h)
                ∙ a.due q h
                ∙ pattern_from c now time (state_at c m (under φ c q)) (omega (arith, within.0)) (own q h)
                ∙ ap₂ (pattern_time c) (sym (step_time_lem c m)) (sym (kept q h));
            covered = covered_extends φ few m'.table m.table (step_moment c m).table (sound_table s') s.table (step_extends legal s) a.covered;
          }
