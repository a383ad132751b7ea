-- What a program prints that makes the calls one after the other, each on what the last one left.
use Rattle.std.specs.Prelude.{List, [], ◌++◌, ℕ, zero, suc, replicate}
use Rattle.refusal.specs.Answer.{Answer, refused, answered}
use Rattle.format.specs.Circuit.{Circuit, header_of}
use Rattle.format.specs.Legal.{most_nodes, most_horizon, check_circuit}
use Rattle.format.specs.File.{read_cell}
use Rattle.diagram.specs.Store.{fresh}
use Rattle.diagram.specs.Call.{Columns, columns_of}
use Rattle.diagram.specs.Held.{least_entries}
use Rattle.record.specs.declared.Run.{Run}
use Rattle.advance.specs.declared.Task.TheVariants.{Start, Step}
use Rattle.advance.specs.Task.{task_call}
use Rattle.advance.specs.Went.{run_after, table_after, working_after}
use Rattle.fields.specs.Line.{cell_line, refused_line}
use Rattle.lines.specs.Listing.{started_lines, stepped_lines, following}

-- a record before any start
abbrev pub no_run : Run
no_run = record { time = 0; used = 0; values = replicate most_nodes 0; changes = replicate most_nodes 0 }

-- a step, and another after each that was answered
unfoldable pub printed_steps : ℕ → Circuit → ℕ → Columns → Run → Columns → List ℕ
printed_steps zero c steps table r working = []
printed_steps (suc k) c steps table r working =
    let answer = task_call (check_circuit c) Step table r working in
    stepped_lines c r.time r.values steps answer
    ++ following answer (λ _. printed_steps k c (suc steps) (table_after table answer) (run_after r answer) (working_after working answer))

-- a start in a fresh table of some length, and steps
unfoldable pub printed_run : ℕ → Circuit → ℕ → Columns → List ℕ
printed_run k c size working =
    let table = columns_of size fresh in
    let answer = task_call (check_circuit c) (Start least_entries) table no_run working in
    started_lines c answer
    ++ following answer (λ _. printed_steps k c 0 (table_after table answer) (run_after no_run answer) (working_after working answer))

-- a cell as it was read
unfoldable pub printed_cell : Answer Circuit → ℕ → Columns → List ℕ
printed_cell (refused why) size working = refused_line why
printed_cell (answered c) size working = cell_line (header_of c) ++ printed_run (suc most_horizon) c size working

-- a file
unfoldable pub printed : List ℕ → ℕ → Columns → List ℕ
printed file size working = printed_cell (read_cell file) size working
