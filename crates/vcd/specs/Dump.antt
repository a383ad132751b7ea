-- The dump of a whole run for one pattern (document 02, wish 5), and the answer with every refusal in its order: the file's, 9, 11, 8.
use Rattle.std.specs.Prelude.{ℕ, zero, suc, ◌-◌, List, [], ◌++◌, Bool, true, not, ◌&&◌, cond, length, leb, ltb, eqb}
use Rattle.refusal.specs.declared.Refusal.TheVariants.{Buffer, Question, Ceiling}
use Rattle.refusal.specs.Answer.{Answer, refused, answered, check}
use Rattle.format.specs.Circuit.{Circuit}
use Rattle.format.specs.Fixing.{low, high, Fixing, fixed}
use Rattle.diagram.specs.Pattern.{patterns, letter_at}
use Rattle.diagram.specs.Table.{never}
use Rattle.rules.specs.State.{value_at}
use Rattle.rules.specs.Step.{start_exceeds, step_exceeds}
use Rattle.rules.specs.Call.{with_cell}
use Rattle.commute.specs.Alone.{Alone, own_time, start_alone, step_alone}
use Rattle.vcd.specs.Lines.{declarations, time_line, value_lines, moment_lines}

-- what is gathered over the steps of a pattern's run after a moment, at most so many, `none` where there is no more
unfoldable pub over_steps : {A : Type 0} → (Alone → A → A) → A → ℕ → Circuit → ℕ → Alone → A
over_steps gather none zero c p a = none
over_steps gather none (suc k) c p a = cond (ltb (own_time c a) never) (gather a (over_steps gather none k c p (step_alone c p a))) none

-- Each step takes time on and none is past the horizon, so there are at most as many as there are picoseconds left (law `steps-enough`).
abbrev pub steps_left : Circuit → Alone → ℕ
steps_left c a = c.horizon.0 - a.time

-- the lines of the step after a moment
unfoldable pub step_lines : Circuit → ℕ → Alone → List ℕ
step_lines c p a = moment_lines (length c.nodes) (own_time c a) (value_at a.state) (value_at (step_alone c p a).state)

-- it does not exceed the ceiling
unfoldable pub step_within : Circuit → ℕ → Alone → Bool
step_within c p a = not (step_exceeds c (own_time c a) p a.state)

-- the lines of all steps after a moment, and whether none exceeds the ceiling
unfoldable pub lines_after : Circuit → ℕ → Alone → List ℕ
lines_after c p a = over_steps (λ b rest. step_lines c p b ++ rest) [] (steps_left c a) c p a

unfoldable pub within_after : Circuit → ℕ → Alone → Bool
within_after c p a = over_steps (λ b rest. step_within c p b && rest) true (steps_left c a) c p a

-- the whole run of a pattern: its start, then its steps
unfoldable pub start_lines : Circuit → ℕ → List ℕ
start_lines c p = declarations (length c.nodes) ++ time_line 0 ++ value_lines (length c.nodes) (value_at (start_alone c p).state)

unfoldable pub run_lines : Circuit → ℕ → List ℕ
run_lines c p = start_lines c p ++ lines_after c p (start_alone c p)

-- 11: neither its start nor a step exceeds the ceiling
unfoldable pub run_within : Circuit → ℕ → Bool
run_within c p = not (start_exceeds c p) && within_after c p (start_alone c p)

-- the letters as a pattern's bits
abbrev pub as_bits : ℕ → Fixing
as_bits p k = cond (eqb (letter_at k p) 0) low high

-- the cell whose run it is
abbrev pub fixed_as : Circuit → ℕ → Circuit
fixed_as c p = fixed (as_bits p) c

-- The dump of a cell at a pattern. The run's cell is without letters, so its patterns are alike; 0 is one of them.
unfoldable pub dump : Circuit → ℕ → List ℕ
dump c p = run_lines (fixed_as c p) 0

-- the file's refusals, 9 for a pattern before the run, then 11 of the run
unfoldable pub dump_answer : Answer Circuit → ℕ → Answer (List ℕ)
dump_answer cell p =
    with_cell cell (λ c.
    check (ltb p (patterns c.letters)) Question
    (check (run_within (fixed_as c p) 0) Ceiling
    (answered (dump c p))))

-- 8, last of all: the room is shorter than the dump
unfoldable pub dump_in : ℕ → Answer (List ℕ) → Answer (List ℕ)
dump_in room (refused why) = refused why
dump_in room (answered bytes) = check (leb (length bytes) room) Buffer (answered bytes)
