-- What a proof about an interface needs of it: each contract gives the answer of the definitions, and leaves what that answer says.
use mathlib.Core.Path.{◌≡◌}
use Prim.Native.Nat.{ℕ, ◌≤◌}
use lib.ListN.{length}
use Rattle.refusal.specs.Answer.{Answer, refused, answered, answer_number}
use Rattle.format.specs.Circuit.{Circuit}
use Rattle.format.specs.Legal.{most_nodes, check_circuit}
use Rattle.diagram.specs.Call.{Columns, columns_of, fresh_call, columns_after}
use Rattle.rules.specs.Run.{Run, Moment}
use Rattle.rules.specs.Call.{start_call, step_call, run_call, Wire, ask_call}
use Rattle.commute.specs.Interface.{Held, Interface}
use Rattle.commute.specs.Lists.{Call, step, in_place, up_to, Made}

-- the answer of a call by the definitions
abbrev pub answer_of : Circuit → Columns → Run → Call → Answer Moment
answer_of c table r (step working) = step_call (answered c) table r working
answer_of c table r (in_place working) = step_call (answered c) table r working
answer_of c table r (up_to until working) = run_call (answered c) until table r working

-- what an answer leaves: a refusal all as it was
abbrev pub left : {R : Type 0} → (Run → R) → Held R → Answer Moment → Held R
left stored h (refused why) = h
left stored h (answered m) = record { table = columns_of (length h.table.letter) m.table; run = stored m.run }

-- a call by its answer
pub record Went {R : Type 0} (stored : Run → R) (answer : Answer Moment) (h h' : Held R) (number : ℕ) : Type 0 where
  pub number_is : number ≡ answer_number answer
  pub held_is : h' ≡ left stored h answer

-- a question by its answer
pub record Asked (answer : Answer Wire) (number value change : ℕ) : Type 0 where
  pub number_is : number ≡ answer_number answer
  pub told : (wire : Wire) → answer ≡ answered wire → (value ≡ wire.value) × (change ≡ wire.change)

-- an entry for each node record
pub record Long (c : Circuit) (r : Run) : Type 0 where
  pub few : length c.nodes ≤ most_nodes
  pub values : length r.values ≡ length c.nodes
  pub changes : length r.changes ≡ length c.nodes

pub record Lawful {Source R : Type 0} (K : Interface Source R) : Type 0 where
  -- how a run is stored, and that it can be read
  pub stored : Run → R
  pub stored_sized : (c : Circuit) (r : Run) → Long c r → K.Sized (answered c) (stored r)
  pub stored_stated : (c : Circuit) (r : Run) → Long c r → K.stated c (stored r) ≡ r
  -- the cell of a call is legal
  pub legal : (s : Source) (c : Circuit) → K.cell s ≡ answered c → check_circuit c ≡ answered c
  pub fresh : (lent made : Columns) (number : ℕ) → K.Fresh lent made number → (number ≡ answer_number (fresh_call lent)) × (made ≡ columns_after lent (fresh_call lent))
  -- an answered start had a record of the right length
  pub start_sized : (s : Source) (used : ℕ) (h h' : Held R) (working working' : Columns) → K.Start s used h h' working working' 0 → K.Sized (K.cell s) h.run
  pub start : (s : Source) (used : ℕ) (h h' : Held R) (working working' : Columns) (number : ℕ) → K.Sized (K.cell s) h.run → K.Start s used h h' working working' number
      → Went stored (start_call (K.cell s) h.table used working) h h' number
  pub made : (s : Source) (c : Circuit) → K.cell s ≡ answered c → (call : Call) (h h' : Held R) (number : ℕ) → K.Sized (answered c) h.run → Made K s call h h' number
      → Went stored (answer_of c h.table (K.stated c h.run) call) h h' number
  -- a run up to a picosecond can be made
  pub run : (s : Source) (c : Circuit) → K.cell s ≡ answered c → (until : ℕ) (h h' : Held R) (working : Columns) (number : ℕ) → K.Sized (answered c) h.run
      → Went stored (run_call (answered c) until h.table (K.stated c h.run) working) h h' number → (working' : Columns) × K.UpTo s until h h' working working' number
  pub ask : (s : Source) (c : Circuit) → K.cell s ≡ answered c → (h : Held R) (n p number value change : ℕ) → K.Sized (answered c) h.run → K.Ask s h n p number value change
      → Asked (ask_call (answered c) h.table (K.stated c h.run) n p) number value change
