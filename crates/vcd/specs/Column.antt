-- Values of nodes in a column of numbers, by node number.
use Rattle.std.specs.Prelude.{ℕ, ◌+◌, ◌≤◌, ◌<◌, ◌≡◌, List, length, get_or}
use Rattle.format.specs.Circuit.{first_node_number}
use Rattle.format.specs.Legal.{most_nodes}

-- the value of node n
abbrev pub in_column : List ℕ → ℕ → ℕ
in_column column n = get_or column n 0

-- a column of all nodes that a cell can have, with bits for so many node records
pub record Values (nodes : ℕ) (column : List ℕ) : Type 0 where
  pub few : nodes ≤ most_nodes
  pub long : length column ≡ first_node_number + most_nodes
  pub bits : (i : ℕ) → i < nodes → in_column column (first_node_number + i) ≤ 1
