-- Start, step, run up to a picosecond and run question, with every refusal in the papers' order: 8, the cell's own, 7, 10, 11, 9, 6.
use Rattle.std.specs.Prelude.{ℕ, ◌+◌, Bool, ◌&&◌, length, leb, ltb}
use Rattle.refusal.specs.declared.Refusal.TheVariants.{Unsound, Buffer, Question, Finished}
use Rattle.refusal.specs.Answer.{Answer, refused, answered, check}
use Rattle.format.specs.Circuit.{Circuit, first_node_number}
use Rattle.diagram.specs.Pattern.{patterns}
use Rattle.diagram.specs.Table.{never}
use Rattle.diagram.specs.Call.{Columns, lengths_legal, columns_sound, table_of}
use Rattle.rules.specs.State.{value_at, change_at}
use Rattle.rules.specs.Run.{Run, Moment, state_of, start_answer, time_after, step_answer, run_moment, run_sound}

-- working: a second lent table, of which only the lengths are judged
abbrev pub least_working : ℕ
least_working = 4096

abbrev pub working_legal : Columns → Bool
working_legal w = lengths_legal w && leb least_working (length w.letter)

-- the cell of a call: read from a file or checked as a value
abbrev pub with_cell : {A : Type 0} → Answer Circuit → (Circuit → Answer A) → Answer A
with_cell (refused why) next = refused why
with_cell (answered c) next = next c

-- the run and the table that a call was given
abbrev pub moment_given : Columns → Run → Moment
moment_given table r = record { run = r; table = table_of table r.used }

-- 7: run and table are sound together
abbrev pub sound_together : Circuit → Columns → Run → Bool
sound_together c table r = columns_sound c.letters table r.used && run_sound c (table_of table r.used) r

unfoldable pub start_call : Answer Circuit → Columns → ℕ → Columns → Answer Moment
start_call cell table used working =
    check (lengths_legal table && working_legal working) Buffer
    (with_cell cell (λ c.
    check (columns_sound c.letters table used) Unsound
    (start_answer c (length table.letter) (table_of table used))))

unfoldable pub step_call : Answer Circuit → Columns → Run → Columns → Answer Moment
step_call cell table r working =
    check (lengths_legal table && working_legal working) Buffer
    (with_cell cell (λ c.
    check (sound_together c table r) Unsound
    (check (ltb (time_after c (moment_given table r)) never) Finished
    (step_answer c (length table.letter) (moment_given table r)))))

-- a run up to a picosecond: every step not later
unfoldable pub run_call : Answer Circuit → ℕ → Columns → Run → Columns → Answer Moment
run_call cell until table r working =
    check (lengths_legal table && working_legal working) Buffer
    (with_cell cell (λ c.
    check (sound_together c table r) Unsound
    (run_moment c.horizon.0 c until (length table.letter) (moment_given table r))))

-- the answer of a run question
pub record Wire : Type 0 where
  pub value : ℕ
  pub change : ℕ

-- a node's value and next change at a pattern, rails among the nodes
unfoldable pub ask_call : Answer Circuit → Columns → Run → ℕ → ℕ → Answer Wire
ask_call cell table r n p =
    check (lengths_legal table) Buffer
    (with_cell cell (λ c.
    check (sound_together c table r) Unsound
    (check (ltb n (first_node_number + length c.nodes) && ltb p (patterns c.letters)) Question
    (answered (record {
      value = value_at (state_of c (table_of table r.used) r p) n;
      change = change_at (state_of c (table_of table r.used) r p) n;
    })))))
