-- What the walks ask of the cell laid out flat, of a leaf, and of the charges.
use Rattle.std.specs.Prelude.{ℕ, ◌+◌, ◌^◌, ◌≤◌, ◌<◌, List, ◌≡◌, Bool, length, get_or}
use Rattle.std.proofs.Math.Option.{none}
use Rattle.format.specs.Circuit.{Circuit, first_node_number}
use Rattle.rules.specs.State.{State}
use Rattle.rules.specs.Kept.{Channel}
use Rattle.rules.specs.Sum.{Sum, node_sum}
use Rattle.rules.specs.Delay.{Load, node_load}
use Rattle.units.specs.Range.{Positive, Divisible}
use Rattle.net.specs.Net.{nodes_place, at, net_circuit}
use Rattle.net.specs.Laid.{Laid}
use Rattle.net.specs.Roots.{leaf_length}
use Rattle.plain.specs.Leaf.{leaf_state, leaf_channels}

-- the column lays out a legal cell and lists each node's arms
abbrev pub Net : List ℕ → Type 0
Net net = Laid (net_circuit net) net

-- the number of a node record
pub record Noded (net : List ℕ) (n : ℕ) : Type 0 where
  pub least : first_node_number ≤ n
  pub most : n < first_node_number + at net nodes_place

-- a leaf has its length, the rails' values, and bits for the nodes
pub record Leaf (c : Circuit) (leaf : List ℕ) : Type 0 where
  pub long : length leaf ≡ leaf_length
  pub ground : get_or leaf 0 0 ≡ 0
  pub supply : get_or leaf 1 0 ≡ 1
  pub bits : (n : ℕ) → n < first_node_number + length c.nodes → get_or leaf n 0 ≤ 1

-- the charges of the walks from any node stay small
pub record Ranged (c : Circuit) (s : State) (ks : List Channel) : Type 0 where
  pub sums : (a n : ℕ) → n < first_node_number + length c.nodes → (node_sum a c s ks none n).high_charge.0 + (node_sum a c s ks none n).low_charge.0 < 2 ^ 31
  pub loads : (a : ℕ) (sharing : Bool) (new n : ℕ) → n < first_node_number + length c.nodes → (node_load a sharing new c s ks none n).charge.0 < 2 ^ 31

-- all of it, as each walk asks it
pub record Ready (net leaf : List ℕ) : Type 0 where
  pub cell : Net net
  pub numbers : Leaf (net_circuit net) leaf
  pub charges : Ranged (net_circuit net) (leaf_state (net_circuit net) 0 leaf) (leaf_channels (net_circuit net) leaf)

-- each side of a sum may be divided by the other
pub record Divided (s : Sum) : Type 0 where
  pub high : Divisible s.high s.low
  pub low : Divisible s.low s.high

-- two sums may be joined: no side is 0 ohms, and the charges fit
pub record Joinable (a b : Sum) : Type 0 where
  pub a_high : Positive a.high
  pub a_low : Positive a.low
  pub b_high : Positive b.high
  pub b_low : Positive b.low
  pub high_fits : a.high_charge.0 + b.high_charge.0 < 2 ^ 32
  pub low_fits : a.low_charge.0 + b.low_charge.0 < 2 ^ 32

-- the same of the delay walk
pub record JoinableLoads (a b : Load) : Type 0 where
  pub a_positive : Positive a.resistance
  pub b_positive : Positive b.resistance
  pub fits : a.charge.0 + b.charge.0 < 2 ^ 32
