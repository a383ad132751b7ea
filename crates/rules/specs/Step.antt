-- Step rules 5 to 7 together: the next change of a node; start and step for one pattern, and whether they exceed the ceiling.
use Rattle.std.specs.Prelude.{ℕ, ◌+◌, min, List, map, Bool, ◌&&◌, cond, length, leb, eqb}
use Rattle.std.proofs.Math.Option.{none}
use Rattle.units.specs.Rules as units
use Rattle.format.specs.Circuit.{Circuit, node_record}
use Rattle.diagram.specs.Table.{never}
use Rattle.rules.specs.State.{State, value_at, change_at, is_inner, node_numbers}
use Rattle.rules.specs.Arrive.{source_at, arrived}
use Rattle.rules.specs.Label.{some}
use Rattle.rules.specs.Reach.{reconsidered}
use Rattle.rules.specs.Kept.{Channel, kept}
use Rattle.rules.specs.Sum.{Sum, node_sum, undriven, new_value}
use Rattle.rules.specs.Delay.{Load, node_load, in_ohms}

-- rule 4 for node n, over the kept channels: its walk begins there
abbrev pub sum_at : Circuit → State → List Channel → ℕ → Sum
sum_at c s ks n = node_sum (length c.nodes) c s ks none n

-- rule 5
unfoldable pub target : Circuit → State → List Channel → ℕ → ℕ
target c s ks n = new_value (sum_at c s ks n) (value_at s n)

-- document 02, wish 3: a resistance in the walk of rule 4 for node n is above the ceiling, whether or not its side decides
unfoldable pub exceeds : Circuit → State → List Channel → ℕ → Bool
exceeds c s ks n = (sum_at c s ks n).exceeds

-- rule 6: the walk of node n to a new value, which ends at holders of that value or only at driven ends
abbrev pub load_to : Circuit → State → List Channel → Bool → ℕ → ℕ → Load
load_to c s ks sharing new n = node_load (length c.nodes) sharing new c s ks none n

-- the delay by such a walk
unfoldable pub delay_by : Circuit → State → List Channel → Bool → ℕ → ℕ → ℕ
delay_by c s ks sharing new n =
    let load = load_to c s ks sharing new n in
    (units.delay (in_ohms load.resistance) load.charge).0

-- it ends at holders where neither side drives the node
unfoldable pub delay_to : Circuit → State → List Channel → ℕ → ℕ → ℕ
delay_to c s ks new n = delay_by c s ks (undriven (sum_at c s ks n)) new n

-- past the horizon a change is never
abbrev pub in_horizon : Circuit → ℕ → ℕ
in_horizon c time = cond (leb time c.horizon.0) time never

-- rules 5 to 7: the next change of a reconsidered node at T
unfoldable pub next_change : Circuit → ℕ → State → List Channel → ℕ → ℕ
next_change c time s ks n =
    cond (eqb (target c s ks n) (value_at s n))
    never
    (in_horizon c (min (change_at s n) (time + delay_to c s ks (target c s ks n) n)))

-- one step to T for one pattern: all of T happens, then the nodes that the change can reach are reconsidered
unfoldable pub stepped : Circuit → ℕ → ℕ → State → State
stepped c time p s =
    let after = arrived c time p s in
    let ks = kept c after in
    record {
      values = after.values;
      changes = map (λ (n : ℕ). cond (reconsidered c s after n) (next_change c time after ks n) (change_at after n)) (node_numbers c);
    }

-- the step to T exceeds the ceiling at this pattern: in a node that it reconsiders. No other node is looked at.
unfoldable pub step_exceeds : Circuit → ℕ → ℕ → State → Bool
step_exceeds c time p s =
    let after = arrived c time p s in
    let ks = kept c after in
    some (λ (n : ℕ). reconsidered c s after n && exceeds c after ks n) (node_numbers c)

-- the nodes at their sources, with no change pending
unfoldable pub initial : Circuit → ℕ → State
initial c p = record {
  values = map (λ (n : ℕ). source_at (node_record c n).start p) (node_numbers c);
  changes = map (λ (n : ℕ). never) (node_numbers c);
}

-- the start for one pattern: every inner node is reconsidered, at time 0
unfoldable pub started : Circuit → ℕ → State
started c p =
    let s = initial c p in
    let ks = kept c s in
    record {
      values = s.values;
      changes = map (λ (n : ℕ). cond (is_inner c n) (next_change c 0 s ks n) never) (node_numbers c);
    }

-- the start exceeds it at this pattern: in any inner node
unfoldable pub start_exceeds : Circuit → ℕ → Bool
start_exceeds c p =
    let s = initial c p in
    let ks = kept c s in
    some (λ (n : ℕ). is_inner c n && exceeds c s ks n) (node_numbers c)
