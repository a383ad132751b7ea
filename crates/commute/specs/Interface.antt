-- The calls on a run, each as its contract tells of it: what is held before and after the call, its working table before and after, and
-- the number that it gives. The calls from C and the calls by value are two such interfaces (crate demand).
use Rattle.std.specs.Prelude.{ℕ}
use Rattle.refusal.specs.Answer.{Answer}
use Rattle.format.specs.Circuit.{Circuit}
use Rattle.diagram.specs.Call.{Columns}
use Rattle.rules.specs.Run.{Run}

-- what a run's owner holds between calls: the table's columns, and the run record in some form
pub record Held (R : Type 0) : Type 0 where
  pub table : Columns
  pub run : R

-- what a contract says of a call that starts or advances a run: held before and after, working before and after, the number
abbrev pub Contract : Type 0 → Type 1
Contract R = Held R → Held R → Columns → Columns → ℕ → Type 0

pub record Interface (Source R : Type 0) : Type 1 where
  -- the cell of a call, and the run that a record states of a cell
  pub cell : Source → Answer Circuit
  pub stated : Circuit → R → Run
  -- a record of the right length for a cell
  pub Sized : Answer Circuit → R → Type 0
  -- a fresh table: the columns before and after, the number
  pub Fresh : Columns → Columns → ℕ → Type 0
  -- a start in a table with so many entries used
  pub Start : Source → ℕ → Contract R
  -- a step, the step in place, a run up to a picosecond
  pub Step : Source → Contract R
  pub InPlace : Source → Contract R
  pub UpTo : Source → ℕ → Contract R
  -- the run question on a node at a pattern: the number, the value and the next change
  pub Ask : Source → Held R → ℕ → ℕ → ℕ → ℕ → ℕ → Type 0
