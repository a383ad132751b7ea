-- A cell as the definitions see it: letters K, horizon H, and three lists in chain order.
use Rattle.std.specs.Prelude.{ℕ, zero, suc, ◌+◌, ◌-◌, List, [], ◌∷◌, Bool, true, false, ◌&&◌, length, get_or}
use Rattle.units.specs.declared.Picoseconds.{Picoseconds}
use Rattle.units.specs.Units.{ohms, femtofarads, picoseconds}
use Rattle.format.specs.declared.Header.{Header}
use Rattle.format.specs.declared.Node.{Node}
use Rattle.format.specs.declared.Transistor.{Transistor}
use Rattle.format.specs.declared.Entry.{Entry}

pub record Circuit : Type 0 where
  pub letters : ℕ
  pub horizon : Picoseconds
  pub nodes : List Node
  pub transistors : List Transistor
  pub schedule : List Entry

-- the numbers N, M, E, K and H of a cell
abbrev pub header_of : Circuit → Header
header_of c = record {
  nodes = length c.nodes;
  transistors = length c.transistors;
  entries = length c.schedule;
  letters = c.letters;
  horizon = c.horizon;
}

-- Nodes are numbered: 0 ground, 1 supply, then the node records in chain order.
abbrev pub first_node_number : ℕ
first_node_number = 2

-- what stands in a place where there is no record
abbrev pub no_node : Node
no_node = record { role = 0; start = 0; capacitance = femtofarads 0 }

abbrev pub no_transistor : Transistor
no_transistor = record { polarity = 0; gate = 0; first = 0; second = 0; resistance = ohms 0 }

abbrev pub no_entry : Entry
no_entry = record { input = 0; source = 0; time = picoseconds 0 }

-- the node record of a node's number, from 2 on
abbrev pub node_record : Circuit → ℕ → Node
node_record c n = get_or c.nodes (n - first_node_number) no_node

-- every element passes a test
unfoldable pub every : {A : Type 0} → (A → Bool) → List A → Bool
every test [] = true
every test (x ∷ xs) = test x && every test xs
