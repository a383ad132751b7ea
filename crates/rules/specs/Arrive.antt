-- Step rule 1: what happens at T, all of it before anything is read.
use Rattle.std.specs.Prelude.{ℕ, ◌-◌, ◌%◌, List, [], ◌∷◌, map, Bool, not, ◌&&◌, cond, eqb}
use Rattle.format.specs.declared.Entry.{Entry}
use Rattle.format.specs.Circuit.{Circuit, node_record}
use Rattle.format.specs.Source.{constant, letter_of}
use Rattle.format.specs.Legal.{is_input}
use Rattle.diagram.specs.Pattern.{letter_at}
use Rattle.diagram.specs.Table.{never}
use Rattle.rules.specs.State.{State, value_at, change_at, node_numbers}

-- the value of a source at a pattern: a constant, a letter (even byte) or its complement (odd byte)
unfoldable pub source_at : ℕ → ℕ → ℕ
source_at source p =
    cond (constant source) source
    (cond (eqb (source % 2) 0) (letter_at (letter_of source) p) (1 - letter_at (letter_of source) p))

-- the value of node n at pattern p once the schedule entries for it at T have come; `present` where there is none
unfoldable pub scheduled : List Entry → ℕ → ℕ → ℕ → ℕ → ℕ
scheduled [] time n p present = present
scheduled (e ∷ es) time n p present =
    cond (eqb e.time.0 time && eqb e.input n) (source_at e.source p) (scheduled es time n p present)

-- an inner node whose next change is T flips
abbrev pub flips : State → ℕ → ℕ → Bool
flips s time n = eqb (change_at s n) time

abbrev pub arrived_value : Circuit → ℕ → ℕ → State → ℕ → ℕ
arrived_value c time p s n =
    cond (is_input c n) (scheduled c.schedule time n p (value_at s n))
    (cond (flips s time n) (1 - value_at s n) (value_at s n))

-- a node that flipped has no next change
abbrev pub arrived_change : ℕ → State → ℕ → ℕ
arrived_change time s n = cond (flips s time n) never (change_at s n)

-- the state once all of T has happened
unfoldable pub arrived : Circuit → ℕ → ℕ → State → State
arrived c time p s = record {
  values = map (arrived_value c time p s) (node_numbers c);
  changes = map (arrived_change time s) (node_numbers c);
}

-- a node changed value at T
abbrev pub changed : State → State → ℕ → Bool
changed before after n = not (eqb (value_at before n) (value_at after n))
