-- One pattern's run by the rules for one pattern, and what demand 2 says of calls without letters: each step, in a list of calls too, is
-- exactly one of these. The table may be any sound one, and the run any that is sound with it.
use Rattle.std.specs.Prelude.{ℕ, zero, suc, ◌+◌, ◌≤◌, ◌<◌, ◌≡◌, true, ◌⊎◌, List, length}
use Rattle.refusal.specs.Answer.{answered}
use Rattle.format.specs.Circuit.{Circuit, first_node_number}
use Rattle.format.specs.Fixing.{free, Fixing, fixed, without_letters}
use Rattle.diagram.specs.Pattern.{patterns}
use Rattle.diagram.specs.Table.{never}
use Rattle.diagram.specs.Call.{Columns, lengths_legal, table_of}
use Rattle.rules.specs.State.{State, value_at, change_at}
use Rattle.rules.specs.Step.{started, stepped}
use Rattle.rules.specs.Run.{Run, pattern_time, state_of}
use Rattle.rules.specs.Call.{sound_together}
use Rattle.commute.specs.Interface.{Held, Interface}
use Rattle.commute.specs.Lists.{Call, After, Reached}
use Rattle.commute.specs.Demand.{fixed_pattern, time_held, Stands}

-- the time of the last step, and the state
pub record Alone : Type 0 where
  pub time : ℕ
  pub state : State

-- its own next time
abbrev pub own_time : Circuit → Alone → ℕ
own_time c a = pattern_time c a.time a.state

-- the start, and a step to that time
abbrev pub start_alone : Circuit → ℕ → Alone
start_alone c p = record { time = 0; state = started c p }

abbrev pub step_alone : Circuit → ℕ → Alone → Alone
step_alone c p a = record { time = own_time c a; state = stepped c (own_time c a) p a.state }

-- n steps
unfoldable pub steps_alone : Circuit → ℕ → Alone → ℕ → Alone
steps_alone c p a zero = a
steps_alone c p a (suc n) = step_alone c p (steps_alone c p a n)

-- a held run that is sound with its table, lengths being in range
pub record SoundHeld {Source R : Type 0} (K : Interface Source R) (c : Circuit) (h : Held R) : Type 0 where
  pub sized : K.Sized (answered c) h.run
  pub lengths : lengths_legal h.table ≡ true
  pub together : sound_together c h.table (K.stated c h.run) ≡ true

-- what it holds for a pattern
abbrev pub held_alone : {Source R : Type 0} → Interface Source R → Circuit → Held R → ℕ → Alone
held_alone K c h p =
    let r : Run = K.stated c h.run in
    record { time = r.time; state = state_of c (table_of h.table r.used) r p }

-- the run question at a pattern is answered from a state, for every node
abbrev pub Tells : {Source R : Type 0} → Interface Source R → Source → Circuit → Held R → ℕ → State → Type 0
Tells K s c h p state =
    (n : ℕ) → n < first_node_number + length c.nodes → (number value change : ℕ) → K.Ask s h n p number value change
    → (number ≡ 0) × (value ≡ value_at state n) × (change ≡ change_at state n)

-- The question tells what is held.
unfoldable pub QuestionsTellTheState : {Source R : Type 0} → Interface Source R → Type 0
QuestionsTellTheState {Source} {R} K =
    (s : Source) (c : Circuit) → K.cell s ≡ answered c → (h : Held R) → SoundHeld K c h
    → (p : ℕ) → p < patterns c.letters → Tells K s c h p (held_alone K c h p).state

-- A start that is answered, in whatever table, holds for each pattern the start by the rules.
unfoldable pub StartsByTheRules : {Source R : Type 0} → Interface Source R → Type 0
StartsByTheRules {Source} {R} K =
    (s : Source) (c : Circuit) → K.cell s ≡ answered c
    → (used : ℕ) (h h' : Held R) (working working' : Columns) → K.Start s used h h' working working' 0
    → SoundHeld K c h' × ((p : ℕ) → p < patterns c.letters → held_alone K c h' p ≡ start_alone c p)

-- With letters: after any list of calls each pattern holds the last moment of its own run that is not later.
unfoldable pub EachPatternByTheRules : {Source R : Type 0} → Interface Source R → Type 0
EachPatternByTheRules {Source} {R} K =
    (s : Source) (c : Circuit) → K.cell s ≡ answered c
    → (h last : Held R) → SoundHeld K c h → (calls : List Call) → After K s h calls last
    → SoundHeld K c last
    × ((p : ℕ) → p < patterns c.letters
    → (n : ℕ) × ((held_alone K c last p).state ≡ (steps_alone c p (held_alone K c h p) n).state)
    × ((steps_alone c p (held_alone K c h p) n).time ≤ time_held K c last)
    × (time_held K c last < own_time c (steps_alone c p (held_alone K c h p) n)))

-- every pattern holds the same state; so it is after a start of a cell without letters, and where K is 0
abbrev pub Alike : {Source R : Type 0} → Interface Source R → Circuit → Held R → Type 0
Alike K c h = (p q : ℕ) → p < patterns c.letters → q < patterns c.letters → held_alone K c h p ≡ held_alone K c h q

-- n steps by the rules lead every pattern from one held run to another
abbrev pub StepsTo : {Source R : Type 0} → Interface Source R → Circuit → ℕ → Held R → Held R → Type 0
StepsTo K c n h h' = (p : ℕ) → p < patterns c.letters → held_alone K c h' p ≡ steps_alone c p (held_alone K c h p) n

-- no step is left up to a picosecond
abbrev pub NoneLeft : {Source R : Type 0} → Interface Source R → Circuit → ℕ → Held R → Type 0
NoneLeft K c until h = (p : ℕ) → p < patterns c.letters → (own_time c (held_alone K c h p) ≡ never) ⊎ (until < own_time c (held_alone K c h p))

-- Without letters: an answered start leaves all patterns alike; an answered step is one step by the rules, in place too; an answered run
-- up to a picosecond is all steps that are not later and no other; and any list of calls is some number of steps, all patterns staying alike.
pub record ByTheRules {Source R : Type 0} (K : Interface Source R) (s : Source) (c : Circuit) : Type 0 where
  pub start : (used : ℕ) (h h' : Held R) (working working' : Columns) → K.Start s used h h' working working' 0 → Alike K c h'
  pub step : (h h' : Held R) → SoundHeld K c h → Alike K c h → (working working' : Columns) → K.Step s h h' working working' 0 → StepsTo K c 1 h h'
  pub in_place_lem : (h h' : Held R) → SoundHeld K c h → Alike K c h → (working working' : Columns) → K.InPlace s h h' working working' 0 → StepsTo K c 1 h h'
  pub up_to_lem : (h h' : Held R) → SoundHeld K c h → Alike K c h → (until : ℕ) (working working' : Columns) → K.UpTo s until h h' working working' 0
      → (n : ℕ) × StepsTo K c n h h' × NoneLeft K c until h' × ((n ≡ 0) ⊎ (time_held K c h' ≤ until))
  pub calls : (h last : Held R) → SoundHeld K c h → Alike K c h → (list : List Call) → After K s h list last
      → Alike K c last × (n : ℕ) × StepsTo K c n h last

unfoldable pub WithoutLettersByTheRules : {Source R : Type 0} → Interface Source R → Type 0
WithoutLettersByTheRules {Source} K = (s : Source) (c : Circuit) → K.cell s ≡ answered c → without_letters c ≡ true → ByTheRules K s c

-- A cell of no letters is without letters, and all patterns of whatever is held are alike: there is one.
unfoldable pub NoLettersByTheRules : {Source R : Type 0} → Interface Source R → Type 0
NoLettersByTheRules {Source} {R} K = (s : Source) (c : Circuit) → K.cell s ≡ answered c → c.letters ≡ 0 → (without_letters c ≡ true) × ((h : Held R) → Alike K c h)

-- Every letter fixed: at a picosecond at which both runs stand, the fixed run and, at the pattern with the letters fixed, the first tell
-- what the rules for one pattern give, step by step.
unfoldable pub FullyFixedByTheRules : {Source R : Type 0} → Interface Source R → Type 0
FullyFixedByTheRules {Source} {R} K =
    (s fixed-one : Source) (c : Circuit) (φ : Fixing) → K.cell s ≡ answered c → K.cell fixed-one ≡ answered (fixed φ c)
    → ((k : ℕ) → k < c.letters → φ k ≡ free → ⊥)
    → (size : ℕ) (first second : Held R) → Reached K s size first → Reached K fixed-one size second
    → (p : ℕ) → Stands K s c first p → Stands K fixed-one (fixed φ c) second p
    → (n : ℕ) × ((q : ℕ) → q < patterns c.letters
    → let r : ℕ = fixed_pattern φ c.letters q in
    ((steps_alone c r (start_alone c r) n).time ≡ time_held K (fixed φ c) second)
    × Tells K fixed-one c second q (steps_alone c r (start_alone c r) n).state
    × Tells K s c first r (steps_alone c r (start_alone c r) n).state)
