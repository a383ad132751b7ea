-- The listing of a cell, document 01's "The inverter, whole", as bytes.
use Rattle.std.specs.Prelude.{ℕ, zero, suc, ◌+◌, List, [], ◌∷◌, ◌++◌, not, cond, length, get_or, ltb, eqb}
use Rattle.refusal.specs.declared.Refusal.{Refusal}
use Rattle.refusal.specs.declared.Refusal.TheVariants.{Finished}
use Rattle.refusal.specs.Number.{refusal_number}
use Rattle.refusal.specs.Answer.{Answer, refused, answered, check}
use Rattle.format.specs.Circuit.{Circuit, header_of, first_node_number}
use Rattle.format.specs.File.{read_cell}
use Rattle.diagram.specs.Table.{never}
use Rattle.diagram.specs.Store.{fresh}
use Rattle.diagram.specs.Operation.{count}
use Rattle.rules.specs.Run.{Moment, start_answer, time_after, step_answer}
use Rattle.text.specs.Decimal.{spaced, ended}
use Rattle.fields.specs.Line.{cell_line, refused_line}

-- a time, a node's number, and at how many patterns it is high
abbrev pub node_line : ℕ → ℕ → ℕ → List ℕ
node_line time n high = spaced time ++ spaced n ++ ended high

-- the line of node record i at a moment
abbrev pub line_at : Circuit → Moment → ℕ → List ℕ
line_at c m i = node_line m.run.time (first_node_number + i) (count c.letters m.table (get_or m.run.values i 0))

-- the lines of the first n node records, in node order
unfoldable pub lines_of : ℕ → (ℕ → List ℕ) → List ℕ
lines_of zero line = []
lines_of (suc n) line = lines_of n line ++ line n

-- the start: every node record
abbrev pub start_lines : Circuit → Moment → List ℕ
start_lines c m = lines_of (length c.nodes) (line_at c m)

-- a step: each node record whose function is another than before, which is to say its value's entry
abbrev pub step_lines : Circuit → List ℕ → Moment → List ℕ
step_lines c before m =
    lines_of (length c.nodes) (λ i. cond (not (eqb (get_or m.run.values i 0) (get_or before i 0))) (line_at c m i) [])

-- the last line: the time reached, and the steps
abbrev pub end_line : ℕ → ℕ → List ℕ
end_line time steps = 101 ∷ 110 ∷ 100 ∷ 32 ∷ (spaced time ++ ended steps)

-- the line of a step that was refused: finished is the end
abbrev pub stop_line : ℕ → ℕ → Refusal → List ℕ
stop_line time steps why = cond (eqb (refusal_number why) (refusal_number Finished)) (end_line time steps) (refused_line why)

-- what is printed of a start's answer
abbrev pub started_lines : Circuit → Answer Moment → List ℕ
started_lines c (refused why) = refused_line why
started_lines c (answered m) = start_lines c m

-- what is printed of a step's answer, after some steps and at a time, with the entries of the values before it
abbrev pub stepped_lines : Circuit → ℕ → List ℕ → ℕ → Answer Moment → List ℕ
stepped_lines c time before steps (refused why) = stop_line time steps why
stepped_lines c time before steps (answered m) = step_lines c before m

-- the step of a moment in a table of some length
abbrev pub step_of : Circuit → ℕ → Moment → Answer Moment
step_of c size m = check (ltb (time_after c m) never) Finished (step_answer c size m)

-- what follows an answered call; nothing follows a refused one
abbrev pub following : Answer Moment → (Moment → List ℕ) → List ℕ
following (refused why) next = []
following (answered m) next = next m

-- the steps after a moment, and the last line. Each step takes time on and none is past the horizon, so an allowance of one more than
-- that is enough (law `listing-ends`).
unfoldable pub steps_from : ℕ → Circuit → ℕ → ℕ → Moment → List ℕ
steps_from zero c size steps m = []
steps_from (suc k) c size steps m =
    let answer = step_of c size m in
    stepped_lines c m.run.time m.run.values steps answer ++ following answer (λ next. steps_from k c size (suc steps) next)

-- the start in a fresh table of some length, and what follows it
unfoldable pub run_lines : Circuit → ℕ → List ℕ
run_lines c size =
    let answer = start_answer c size fresh in
    started_lines c answer ++ following answer (steps_from (suc c.horizon.0) c size 0)

unfoldable pub cell_lines : Answer Circuit → ℕ → List ℕ
cell_lines (refused why) size = refused_line why
cell_lines (answered c) size = cell_line (header_of c) ++ run_lines c size

-- the listing of a file, with a table of some length
unfoldable pub listing : List ℕ → ℕ → List ℕ
listing file size = cell_lines (read_cell file) size
