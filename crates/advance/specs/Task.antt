-- Start, step and run up to a picosecond as one: the answer of a task on a cell, a table, a run record and working (rules' Call).
use Rattle.std.specs.Prelude.{ℕ, length, take}
use Rattle.refusal.specs.Answer.{Answer, refused, answered}
use Rattle.format.specs.Circuit.{Circuit}
use Rattle.diagram.specs.Call.{Columns}
use Rattle.rules.specs.Run as defined
use Rattle.rules.specs.Call.{start_call, step_call, run_call}
use Rattle.record.specs.declared.Run.{Run}
use Rattle.advance.specs.declared.Task.{Task}
use Rattle.advance.specs.declared.Task.TheVariants.{Start, Step, Until}

-- how many node records the cell of a call has
abbrev pub nodes_in : Answer Circuit → ℕ
nodes_in (refused why) = 0
nodes_in (answered c) = length c.nodes

-- the run that a record states of the cell of a call: places past the node records are not looked at
abbrev pub run_in : Answer Circuit → Run → defined.Run
run_in cell r = record {
  time = r.time;
  used = r.used;
  values = take (nodes_in cell) r.values;
  changes = take (nodes_in cell) r.changes;
}

-- a start ignores the record
abbrev pub task_call : Answer Circuit → Task → Columns → Run → Columns → Answer defined.Moment
task_call cell (Start used) table r working = start_call cell table used working
task_call cell Step table r working = step_call cell table (run_in cell r) working
task_call cell (Until time) table r working = run_call cell time table (run_in cell r) working
