-- All patterns together: the time of a step, the run record, and what start, step and run store.
use Rattle.std.specs.Prelude.{ℕ, zero, suc, min, List, [], ◌∷◌, map, Bool, false, not, ◌&&◌, ◌||◌, cond, length, leb, ltb, eqb}
use Rattle.refusal.specs.declared.Refusal.TheVariants.{Full, Ceiling}
use Rattle.refusal.specs.Answer.{Answer, refused, answered, check}
use Rattle.lists.specs.Tests.{below}
use Rattle.format.specs.declared.Entry.{Entry}
use Rattle.format.specs.Circuit.{Circuit, every}
use Rattle.format.specs.Legal.{is_input}
use Rattle.diagram.specs.Pattern.{patterns}
use Rattle.diagram.specs.Table.{Table, never, number_at}
use Rattle.diagram.specs.Store.{store}
use Rattle.diagram.specs.Operation.{two_valued}
use Rattle.rules.specs.State.{State, value_at, change_at, node_numbers}
use Rattle.rules.specs.Step.{started, start_exceeds, stepped, step_exceeds}

-- the earliest of some times that is after now, or never
unfoldable pub soonest : ℕ → List ℕ → ℕ
soonest now [] = never
soonest now (time ∷ times) = min (cond (ltb now time) time never) (soonest now times)

-- the earliest pending or scheduled time after now for one pattern
unfoldable pub pattern_time : Circuit → ℕ → State → ℕ
pattern_time c now s = min (soonest now s.changes) (soonest now (map (λ (e : Entry). e.time.0) c.schedule))

-- the least number of a function below n, or never
unfoldable pub least_below : ℕ → (ℕ → ℕ) → ℕ
least_below zero f = never
least_below (suc n) f = min (least_below n f) (f n)

-- T: the earliest over all patterns, or never
unfoldable pub next_time : Circuit → ℕ → (ℕ → State) → ℕ
next_time c now states = least_below (patterns c.letters) (λ p. pattern_time c now (states p))

-- The run record: the time, the used count, and for each node record the entries of its value and of its next change.
pub record Run : Type 0 where
  pub time : ℕ
  pub used : ℕ
  pub values : List ℕ
  pub changes : List ℕ

-- a run and its table
pub record Moment : Type 0 where
  pub run : Run
  pub table : Table

-- the state of a pattern that a run record holds
unfoldable pub state_of : Circuit → Table → Run → ℕ → State
state_of c t r p = record {
  values = map (λ (e : ℕ). number_at c.letters t e p) r.values;
  changes = map (λ (e : ℕ). number_at c.letters t e p) r.changes;
}

-- functions stored one after the other
pub record StoredAll : Type 0 where
  pub table : Table
  pub entries : List ℕ

unfoldable pub store_all : ℕ → List (ℕ → ℕ) → Table → StoredAll
store_all letters [] t = record { table = t; entries = [] }
store_all letters (f ∷ fs) t =
    let s = store letters 0 f t in
    let rest = store_all letters fs s.table in
    record { table = rest.table; entries = s.entry ∷ rest.entries }

-- the record of a state for every pattern: all values in node order, then all next changes
unfoldable pub moment_of : Circuit → ℕ → (ℕ → State) → Table → Moment
moment_of c time states t =
    let vs = store_all c.letters (map (λ (n : ℕ) (p : ℕ). value_at (states p) n) (node_numbers c)) t in
    let cs = store_all c.letters (map (λ (n : ℕ) (p : ℕ). change_at (states p) n) (node_numbers c)) vs.table in
    record {
      run = record { time = time; used = length cs.table; values = vs.entries; changes = cs.entries };
      table = cs.table;
    }

-- the start over all patterns
unfoldable pub start_moment : Circuit → Table → Moment
start_moment c t = moment_of c 0 (started c) t

-- T after a moment, over all patterns
unfoldable pub time_after : Circuit → Moment → ℕ
time_after c m = next_time c m.run.time (state_of c m.table m.run)

-- the step to T over all patterns
unfoldable pub step_moment : Circuit → Moment → Moment
step_moment c m =
    let time = time_after c m in
    moment_of c time (λ p. stepped c time p (state_of c m.table m.run p)) m.table

-- 6: the entries used and those to be added exceed a table of some size
abbrev pub fitting : ℕ → Moment → Answer Moment
fitting size m = check (leb (length m.table) size) Full (answered m)

-- 11 (document 02, wish 3): at some pattern the start exceeds the ceiling, or the step to T does
unfoldable pub start_within : Circuit → Bool
start_within c = below (patterns c.letters) (λ p. not (start_exceeds c p))

unfoldable pub step_within : Circuit → Moment → Bool
step_within c m = below (patterns c.letters) (λ p. not (step_exceeds c (time_after c m) p (state_of c m.table m.run p)))

-- the answer of a start and of a step: 11 before 6
abbrev pub start_answer : Circuit → ℕ → Table → Answer Moment
start_answer c size t = check (start_within c) Ceiling (fitting size (start_moment c t))

abbrev pub step_answer : Circuit → ℕ → Moment → Answer Moment
step_answer c size m = check (step_within c m) Ceiling (fitting size (step_moment c m))

abbrev pub continued : Answer Moment → (Moment → Answer Moment) → Answer Moment
continued (refused why) next = refused why
continued (answered m) next = next m

-- Every step not later than a time, and no other; refused as a whole where a step is. Each step takes time on and none is past the
-- horizon, so an allowance of that many steps is enough (law `steps-enough`).
unfoldable pub run_moment : ℕ → Circuit → ℕ → ℕ → Moment → Answer Moment
run_moment zero c until size m = answered m
run_moment (suc steps) c until size m =
    cond (ltb (time_after c m) never && leb (time_after c m) until)
    (continued (step_answer c size m) (λ (next : Moment). run_moment steps c until size next))
    (answered m)

-- the entry of never
abbrev pub never_entry : ℕ
never_entry = 2

-- a next change: at every pattern a time after now and not past the horizon, or never
unfoldable pub times_legal : Circuit → Table → ℕ → ℕ → Bool
times_legal c t now e =
    below (patterns c.letters)
    (λ p. eqb (number_at c.letters t e p) never
    || (ltb now (number_at c.letters t e p) && leb (number_at c.letters t e p) c.horizon.0))

-- inputs have no next change
unfoldable pub inputs_rest : Circuit → List ℕ → List ℕ → Bool
inputs_rest c [] changes = eqb (length changes) 0
inputs_rest c (n ∷ ns) [] = false
inputs_rest c (n ∷ ns) (e ∷ es) = (not (is_input c n) || eqb e never_entry) && inputs_rest c ns es

-- 7: a run record is sound with a sound table
unfoldable pub run_sound : Circuit → Table → Run → Bool
run_sound c t r =
    leb r.time c.horizon.0
    && eqb (length r.values) (length c.nodes)
    && every (λ (e : ℕ). ltb e (length t) && two_valued c.letters t e) r.values
    && every (λ (e : ℕ). ltb e (length t) && times_legal c t r.time e) r.changes
    && inputs_rest c (node_numbers c) r.changes
