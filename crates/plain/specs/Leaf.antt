-- The plain numbers of one pattern: 26 values of nodes, then for each transistor whether it is kept. And what the walks over them give.
use Rattle.std.specs.Prelude.{ℕ, suc, ◌+◌, List, [], ◌∷◌, ◌≡◌, Bool, true, false, cond, length, get_or, take, drop, replicate, ltb, eqb, Result, Ok, Err}
use Rattle.std.proofs.Math.Option.{Option, some, none}
use Rattle.units.specs.declared.AboveCeiling.{AboveCeiling}
use Rattle.units.specs.Units.{above_ceiling}
use Rattle.format.specs.declared.Transistor.{Transistor}
use Rattle.format.specs.Circuit.{Circuit, first_node_number}
use Rattle.format.specs.Legal.{most_transistors}
use Rattle.rules.specs.State.{State}
use Rattle.rules.specs.Kept.{Channel}
use Rattle.rules.specs.Sum as rules
use Rattle.rules.specs.Delay as rules-delay
use Rattle.rules.specs.Step.{target, exceeds, delay_by, next_change}
use Rattle.net.specs.Net.{net_transistor, net_circuit}
use Rattle.net.specs.Roots.{kept_place}
use Rattle.plain.specs.declared.Sum.{Sum}
use Rattle.plain.specs.declared.Load.{Load}
use Rattle.plain.specs.Exceeded.{change_or_exceeded}

-- the transistors with a flag, from transistor i on
unfoldable pub kept_by : (ℕ → Bool) → ℕ → List Transistor → List Channel
kept_by flag i [] = []
kept_by flag i (t ∷ ts) = cond (flag i) (record { number = i; transistor = t } ∷ kept_by flag (suc i) ts) (kept_by flag (suc i) ts)

abbrev pub is_kept : List ℕ → ℕ → Bool
is_kept leaf i = eqb (get_or leaf (kept_place + i) 0) 1

abbrev pub leaf_channels : Circuit → List ℕ → List Channel
leaf_channels c leaf = kept_by (is_kept leaf) 0 c.transistors

-- the state, with one next change for all nodes: only the considered node's is read
abbrev pub leaf_state : Circuit → ℕ → List ℕ → State
leaf_state c pending leaf = record {
  values = take (length c.nodes) (drop first_node_number leaf);
  changes = replicate (length c.nodes) pending;
}

-- a transistor of the cell laid out flat, with its number
abbrev pub net_channel : List ℕ → ℕ → Channel
net_channel net i = record { number = i; transistor = net_transistor net i }

-- the transistor by which a node was reached; none from 64 on
abbrev pub from_of : ℕ → Option ℕ
from_of from = cond (ltb from most_transistors) (some from) none

-- node sum and delay walk of a leaf
abbrev pub leaf_sum : List ℕ → List ℕ → ℕ → Option ℕ → ℕ → rules.Sum
leaf_sum net leaf allowance from n =
    rules.node_sum allowance (net_circuit net) (leaf_state (net_circuit net) 0 leaf) (leaf_channels (net_circuit net) leaf) from n

abbrev pub leaf_load : List ℕ → List ℕ → ℕ → Bool → ℕ → Option ℕ → ℕ → rules-delay.Load
leaf_load net leaf allowance sharing new from n =
    rules-delay.node_load allowance sharing new (net_circuit net) (leaf_state (net_circuit net) 0 leaf) (leaf_channels (net_circuit net) leaf) from n

-- what a node of a leaf goes to, its delay to a new value by either walk, and its next change
abbrev pub leaf_target : List ℕ → List ℕ → ℕ → ℕ
leaf_target net leaf n = target (net_circuit net) (leaf_state (net_circuit net) 0 leaf) (leaf_channels (net_circuit net) leaf) n

abbrev pub leaf_delay : List ℕ → List ℕ → Bool → ℕ → ℕ → ℕ
leaf_delay net leaf sharing new n = delay_by (net_circuit net) (leaf_state (net_circuit net) 0 leaf) (leaf_channels (net_circuit net) leaf) sharing new n

abbrev pub leaf_move : List ℕ → List ℕ → ℕ → ℕ → ℕ → ℕ
leaf_move net leaf time pending n = next_change (net_circuit net) time (leaf_state (net_circuit net) pending leaf) (leaf_channels (net_circuit net) leaf) n

-- whether its walk exceeds the ceiling; with that, its next change as an answer, and as a number
abbrev pub leaf_exceeds : List ℕ → List ℕ → ℕ → Bool
leaf_exceeds net leaf n = exceeds (net_circuit net) (leaf_state (net_circuit net) 0 leaf) (leaf_channels (net_circuit net) leaf) n

abbrev pub leaf_next : List ℕ → List ℕ → ℕ → ℕ → ℕ → Result ℕ AboveCeiling
leaf_next net leaf time pending n = cond (leaf_exceeds net leaf n) (Err above_ceiling) (Ok (leaf_move net leaf time pending n))

abbrev pub leaf_change : List ℕ → List ℕ → ℕ → ℕ → ℕ → ℕ
leaf_change net leaf time pending n = change_or_exceeded (net_circuit net) time (leaf_state (net_circuit net) pending leaf) (leaf_channels (net_circuit net) leaf) n

-- the code's structs as the definitions' records
abbrev pub sum_of : Sum → rules.Sum
sum_of s = record { high = s.high; low = s.low; high_charge = s.raised; low_charge = s.lowered; exceeds = false }

-- what a walk gives is the node's sum, or that the sum has exceeded the ceiling
abbrev pub Gives : Result Sum AboveCeiling → rules.Sum → Type 0
Gives (Ok s) v = sum_of s ≡ v
Gives (Err e) v = v.exceeds ≡ true

abbrev pub load_of : Load → rules-delay.Load
load_of l = record { resistance = l.resistance; charge = l.charge }
