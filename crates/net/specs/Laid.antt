-- What a column must be to lay out a cell: all that the work of a step relies on.
use Rattle.std.specs.Prelude.{ℕ, ◌+◌, ◌*◌, ◌≤◌, ◌<◌, List, ◌≡◌, length, false}
use Rattle.refusal.specs.Answer.{answered}
use Rattle.format.specs.declared.Node.{Node}
use Rattle.format.specs.declared.Transistor.{Transistor}
use Rattle.format.specs.declared.Entry.{Entry}
use Rattle.format.specs.Circuit.{Circuit, first_node_number}
use Rattle.format.specs.Legal.{most_nodes, most_transistors, most_entries, most_letters, most_horizon, most_capacitance, most_resistance, check_circuit}
use Rattle.rules.specs.Label.{label_at}
use Rattle.rules.specs.Group.{groups}
use Rattle.net.specs.Net.{nodes_place, transistors_place, entries_place, letters_place, horizon_place, degree_place, loops_place, net_length, at, net_node, net_transistor, net_entry, net_circuit, net_arms, arms_of, net_group}
use Rattle.net.specs.Loop.{closes}

-- a node record's numbers are within limits
pub record NodeWithin (letters : ℕ) (n : Node) : Type 0 where
  pub role : n.role ≤ 1
  pub source : n.start < 2 + 2 * letters
  pub capacitance : n.capacitance.0 ≤ most_capacitance

-- a transistor's gate is a node, its ends are two nodes, and its numbers are within limits
pub record TransistorWithin (nodes : ℕ) (t : Transistor) : Type 0 where
  pub polarity : t.polarity ≤ 1
  pub gate : t.gate < first_node_number + nodes
  pub first : t.first < first_node_number + nodes
  pub second : t.second < first_node_number + nodes
  pub differ : t.first ≡ t.second → ⊥
  pub least : 1 ≤ t.resistance.0
  pub most : t.resistance.0 ≤ most_resistance

-- an entry's input is a node record, and its numbers are within limits
pub record EntryWithin (nodes letters horizon : ℕ) (e : Entry) : Type 0 where
  pub input_least : first_node_number ≤ e.input
  pub input_most : e.input < first_node_number + nodes
  pub source : e.source < 2 + 2 * letters
  pub time_least : 1 ≤ e.time.0
  pub time_most : e.time.0 ≤ horizon

-- the counts, and every record, within limits
pub record Within (net : List ℕ) : Type 0 where
  pub least_nodes : 1 ≤ at net nodes_place
  pub nodes : at net nodes_place ≤ most_nodes
  pub least_transistors : 1 ≤ at net transistors_place
  pub transistors : at net transistors_place ≤ most_transistors
  pub entries : at net entries_place ≤ most_entries
  pub letters : at net letters_place ≤ most_letters
  pub least_horizon : 1 ≤ at net horizon_place
  pub horizon : at net horizon_place ≤ most_horizon
  pub node : (i : ℕ) → i < at net nodes_place → NodeWithin (at net letters_place) (net_node net i)
  pub transistor : (i : ℕ) → i < at net transistors_place → TransistorWithin (at net nodes_place) (net_transistor net i)
  pub entry : (i : ℕ) → i < at net entries_place → EntryWithin (at net nodes_place) (at net letters_place) (at net horizon_place) (net_entry net i)

-- the column lays out a legal cell, with each node's arms, the label of its group, and past which transistors none closes a loop
pub record Laid (c : Circuit) (net : List ℕ) : Type 0 where
  pub long : length net ≡ net_length
  pub circuit : net_circuit net ≡ c
  pub legal : check_circuit c ≡ answered c
  pub within : Within net
  pub degree : (n : ℕ) → n < first_node_number + at net nodes_place → at net (degree_place + n) ≤ most_transistors
  pub arms : (n : ℕ) → n < first_node_number + at net nodes_place → net_arms net n ≡ arms_of c n
  pub group : (n : ℕ) → first_node_number ≤ n → n < first_node_number + at net nodes_place → net_group net n ≡ label_at (groups c) n
  pub loops : (i : ℕ) → at net loops_place ≤ i → i < at net transistors_place → closes c i ≡ false
