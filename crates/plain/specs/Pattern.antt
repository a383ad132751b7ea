-- The state of one pattern on plain numbers, and the state of the rules that it shows.
use Rattle.std.specs.Prelude.{ℕ, ◌+◌, ◌-◌, ◌≤◌, ◌<◌, List, Bool, true, false, cond, Result, Ok, Err, ◌≡◌, length, get_or, take, drop, eqb}
use Rattle.units.specs.declared.AboveCeiling.{AboveCeiling}
use Rattle.format.specs.Circuit.{Circuit, first_node_number}
use Rattle.format.specs.Legal.{is_input}
use Rattle.diagram.specs.Table.{never}
use Rattle.rules.specs.State as rules
use Rattle.rules.specs.Arrive.{scheduled}
use Rattle.plain.specs.declared.State.{State}
use Rattle.plain.specs.Exceeded.{exceeded}
use Rattle.plain.specs.Shown.{Column}

-- the numbers of the node records, in order, of a column by node number
abbrev pub of_nodes : Circuit → List ℕ → List ℕ
of_nodes c column = take (length c.nodes) (drop first_node_number column)

-- the state that columns of values and of next changes show
abbrev pub shown_by : Circuit → List ℕ → List ℕ → rules.State
shown_by c values changes = record { values = of_nodes c values; changes = of_nodes c changes }

abbrev pub shown : Circuit → State → rules.State
shown c s = shown_by c s.values s.changes

-- what a step asks of a state: the rails have their values, and values are 0 or 1
pub record Bits (c : Circuit) (values : List ℕ) : Type 0 where
  pub column : Column values
  pub bits : (n : ℕ) → n < first_node_number + length c.nodes → get_or values n 0 ≤ 1

-- and none of its next changes says that a walk exceeds
abbrev pub NoneExceeded : Circuit → List ℕ → Type 0
NoneExceeded c changes = (n : ℕ) → first_node_number ≤ n → n < first_node_number + length c.nodes → exceeded < get_or changes n 0

-- a state that a start or a step gives: all of this, and the rails have no next change
pub record Proper (c : Circuit) (s : State) : Type 0 where
  pub values : Bits c s.values
  pub none_exceeded : NoneExceeded c s.changes
  pub ground : get_or s.changes 0 0 ≡ never
  pub supply : get_or s.changes 1 0 ≡ never

-- what a start or a step gives: the state, or that it exceeds the ceiling
abbrev pub Goes : Circuit → Bool → rules.State → Result State AboveCeiling → Type 0
Goes c over next (Ok s) = (over ≡ false) × (shown c s ≡ next) × Proper c s
Goes c over next (Err e) = over ≡ true

-- 26 numbers by node number: those of the rails, then f of each node record's number before `past`
pub record Filled (low high : ℕ) (f : ℕ → ℕ) (past : ℕ) (column : List ℕ) : Type 0 where
  pub long : length column ≡ 26
  pub ground : get_or column 0 0 ≡ low
  pub supply : get_or column 1 0 ≡ high
  pub each : (n : ℕ) → first_node_number ≤ n → n < past → get_or column n 0 ≡ f n

-- rule 1 for node n, of this value and next change
abbrev pub arrived_at : Circuit → (time p n value change : ℕ) → ℕ
arrived_at c time p n value change =
    cond (is_input c n) (scheduled c.schedule time n p value) (cond (eqb change time) (1 - value) value)
