-- Demand 3. Up to each picosecond at which the first run stands, running the fixed cell is not refused; where both stand, every wire's
-- value and next change in the fixed run are the first's with the same letters fixed afterwards.
use Rattle.std.specs.Prelude.{ℕ, zero, suc, ◌+◌, ◌≤◌, ◌<◌, ◌≡◌, true, length}
use Rattle.refusal.specs.Answer.{answered}
use Rattle.format.specs.Circuit.{Circuit, first_node_number}
use Rattle.format.specs.Fixing.{Setting, free, low, high, Fixing, fixed}
use Rattle.diagram.specs.Pattern.{patterns, with_letter}
use Rattle.diagram.specs.Table.{never}
use Rattle.diagram.specs.Store as table
use Rattle.diagram.specs.Call.{Columns, lengths_legal}
use Rattle.rules.specs.Run.{time_after}
use Rattle.rules.specs.Call.{working_legal, moment_given}
use Rattle.commute.specs.Interface.{Held, Interface}
use Rattle.commute.specs.Lists.{Call, step, in_place, up_to, working_of, Made, Reached}

-- a pattern with each fixed letter below K set as fixed
abbrev pub set_letter : Setting → ℕ → ℕ → ℕ
set_letter free k p = p
set_letter low k p = with_letter k 0 p
set_letter high k p = with_letter k 1 p

unfoldable pub fixed_pattern : Fixing → ℕ → ℕ → ℕ
fixed_pattern φ zero p = p
fixed_pattern φ (suc k) p = set_letter (φ k) k (fixed_pattern φ k p)

-- the time of the last step kept, and T of the next step, never where there is none
abbrev pub time_held : {Source R : Type 0} → Interface Source R → Circuit → Held R → ℕ
time_held K c h = (K.stated c h.run).time

abbrev pub step_time : {Source R : Type 0} → Interface Source R → Circuit → Held R → ℕ
step_time K c h = time_after c (moment_given h.table (K.stated c h.run))

-- a run stands at picosecond p: it has kept no step later than p, and a next run up to p would, with some working table, be answered
-- without a step, which is to leave all as it was
pub record Stands {Source R : Type 0} (K : Interface Source R) (s : Source) (c : Circuit) (h : Held R) (p : ℕ) : Type 0 where
  pub time : time_held K c h ≤ p
  pub working : Columns
  pub working' : Columns
  pub rests : K.UpTo s p h h working working' 0

-- a run up to at most p, or a step whose time is at most p
abbrev pub Within : (p time : ℕ) → Call → Type 0
Within p time (step working) = (time < never) × (time ≤ p)
Within p time (in_place working) = (time < never) × (time ≤ p)
Within p time (up_to q working) = q ≤ p

-- running a cell is not refused up to picosecond p, lengths being in range: not its fresh table, not its start, and after any of its
-- lists no run up to at most p and no step whose time is at most p
pub record NotRefusedUpTo {Source R : Type 0} (K : Interface Source R) (s : Source) (c : Circuit) (size p : ℕ) : Type 0 where
  pub fresh_table : (lent made : Columns) → lengths_legal lent ≡ true → (number : ℕ) → K.Fresh lent made number → number ≡ 0
  pub start : (lent : Columns) → length lent.letter ≡ size → (made h : Held R) → K.Fresh lent made.table 0 → K.Sized (answered c) made.run
      → (working working' : Columns) → working_legal working ≡ true
      → (number : ℕ) → K.Start s (length table.fresh) made h working working' number → number ≡ 0
  pub calls : (h : Held R) → Reached K s size h → (call : Call) → working_legal (working_of call) ≡ true → Within p (step_time K c h) call
      → (h' : Held R) (number : ℕ) → Made K s call h h' number → number ≡ 0

-- two questions, each by its number, value and next change, are answered, and alike
abbrev pub SameAnswer : (ℕ → ℕ → ℕ → Type 0) → (ℕ → ℕ → ℕ → Type 0) → Type 0
SameAnswer Asked Asked' =
    (number value change number' value' change' : ℕ) → Asked number value change → Asked' number' value' change'
    → (number ≡ 0) × (number' ≡ 0) × (value ≡ value') × (change ≡ change')

-- The claim: any cell that is read, any fixing of it, one table length, any two lists, any picosecond; every node number and pattern.
unfoldable pub OrderMakesNoDifference : {Source R : Type 0} → Interface Source R → Type 0
OrderMakesNoDifference {Source} {R} K =
    (s fixed-one : Source) (c : Circuit) (φ : Fixing) → K.cell s ≡ answered c → K.cell fixed-one ≡ answered (fixed φ c)
    → (size : ℕ) (first : Held R) → Reached K s size first
    → (p : ℕ) → Stands K s c first p
    → NotRefusedUpTo K fixed-one (fixed φ c) size p
    × ((second : Held R) → Reached K fixed-one size second → Stands K fixed-one (fixed φ c) second p
    → (n q : ℕ) → n < first_node_number + length c.nodes → q < patterns c.letters
    → SameAnswer (K.Ask fixed-one second n q) (K.Ask s first n (fixed_pattern φ c.letters q)))
