-- How much a wire's load can matter (document 02, wish 11): what more femtofarads at one node do to the delay of a node, for one pattern, with every
-- value and transistor fixed. It is a claim about step rule 6 alone: nothing is said of whole runs, in which changes may swap places.
use Rattle.std.specs.Prelude.{ℕ, ◌+◌, ◌-◌, ◌*◌, ◌≤◌, ◌<◌, ◌≡◌, true, false, length, set}
use Rattle.refusal.specs.Answer.{answered}
use Rattle.units.specs.declared.Ohms.{Ohms}
use Rattle.units.specs.declared.Femtofarads.{Femtofarads}
use Rattle.units.specs.declared.Resistance.{Resistance}
use Rattle.units.specs.declared.Resistance.TheVariants.{Finite}
use Rattle.units.specs.Rules as units
use Rattle.format.specs.declared.Node.{Node}
use Rattle.format.specs.Circuit.{Circuit, first_node_number, node_record}
use Rattle.format.specs.Legal.{most_capacitance, check_circuit}
use Rattle.rules.specs.State.{State, value_at, is_inner}
use Rattle.rules.specs.Kept.{kept}
use Rattle.rules.specs.Sum.{undriven}
use Rattle.rules.specs.Step.{sum_at, target, exceeds, load_to, delay_to}

-- a node record with more capacitance
abbrev pub heavier : Node → Femtofarads → Node
heavier n more = record { role = n.role; start = n.start; capacitance = units.joined n.capacitance more }

-- the cell with more capacitance at node m, all else being the same
unfoldable pub raised : Circuit → ℕ → Femtofarads → Circuit
raised c m more = record {
  letters = c.letters;
  horizon = c.horizon;
  nodes = set c.nodes (m - first_node_number) (heavier (node_record c m) more);
  transistors = c.transistors;
  schedule = c.schedule;
}

-- Of node n in a state, over the transistors that the cell keeps there: the new value by rule 5,
abbrev pub goes_to : Circuit → State → ℕ → ℕ
goes_to c s n = target c s (kept c s) n

-- the delay to it by rule 6,
abbrev pub delay_of : Circuit → State → ℕ → ℕ
delay_of c s n = delay_to c s (kept c s) (goes_to c s n) n

-- and the resistance in the walk of that delay
abbrev pub resistance_of : Circuit → State → ℕ → Resistance
resistance_of c s n = (load_to c s (kept c s) (undriven (sum_at c s (kept c s) n)) (goes_to c s n) n).resistance

-- A node that a side drives and that is due to change: rule 5 gives it another value than it has, as it never does to a rail or an input. Where its walk of rule 4
-- exceeds the ceiling, the start or step is refused 11 and there is no delay to speak of.
pub record DueToChange (c : Circuit) (s : State) (n : ℕ) : Type 0 where
  pub node : n < first_node_number + length c.nodes
  pub driven : undriven (sum_at c s (kept c s) n) ≡ false
  pub within : exceeds c s (kept c s) n ≡ false
  pub changes : goes_to c s n ≡ value_at s n → ⊥

-- an inner node that stays within its limit with so many femtofarads more
pub record Loadable (c : Circuit) (m : ℕ) (more : Femtofarads) : Type 0 where
  pub node : m < first_node_number + length c.nodes
  pub inner : is_inner c m ≡ true
  pub limit : (node_record c m).capacitance.0 + more.0 ≤ most_capacitance

-- R × c / 1000 rounded up, c being the femtofarads more: the most picoseconds by which the delay of a node of R ohms grows
abbrev pub most_growth : Ohms → Femtofarads → ℕ
most_growth resistance more = units.ceil_div (resistance.0 * more.0) 1000

-- what more capacitance at node m does to node n
pub record Slower (c : Circuit) (s : State) (n m : ℕ) (more : Femtofarads) : Type 0 where
  -- the raised cell is legal and keeps the same transistors, and in it too the node is driven and due to change, to the same value
  pub legal : check_circuit (raised c m more) ≡ answered (raised c m more)
  pub same_kept : kept (raised c m more) s ≡ kept c s
  pub still_due : DueToChange (raised c m more) s n
  pub same_value : goes_to (raised c m more) s n ≡ goes_to c s n
  -- R is a number of ohms, the same in both
  pub resistance : Ohms
  pub resistance_is : resistance_of c s n ≡ Finite resistance
  pub same_resistance : resistance_of (raised c m more) s n ≡ Finite resistance
  -- the delay never falls, and grows by no more than that
  pub never_falls : delay_of c s n ≤ delay_of (raised c m more) s n
  pub grows_at_most : delay_of (raised c m more) s n ≤ delay_of c s n + most_growth resistance more

-- The claim: any legal cell; any state of one pattern, each value being 0 or 1; any node that a side drives and that is due to change; any inner node, which may be
-- the same one, and any femtofarads more that leave it within its limit.
unfoldable pub LoadBoundsDelay : Type 0
LoadBoundsDelay =
    (c : Circuit) → check_circuit c ≡ answered c
    → (s : State) → ((i : ℕ) → value_at s i ≤ 1)
    → (n : ℕ) → DueToChange c s n
    → (m : ℕ) (more : Femtofarads) → Loadable c m more
    → Slower c s n m more
