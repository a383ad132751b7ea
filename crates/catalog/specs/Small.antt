-- Every small cell (document 02, wish 12): the list, what it is to have, and its order.
use Rattle.std.specs.Prelude.{◌≡◌, ℕ, ◌≤◌, Bool, true, cond, length, eqb}
use mathlib.Core.List.{List, [], ◌∷◌, ◌++◌, map, flat_map}
use Rattle.refusal.specs.Answer.{Answer, answered}
use Rattle.units.specs.Units.{ohms, femtofarads, picoseconds}
use Rattle.format.specs.declared.Node.{Node}
use Rattle.format.specs.declared.Transistor.{Transistor}
use Rattle.format.specs.Circuit.{Circuit, every}
use Rattle.format.specs.Legal.{inner, input, check_circuit}
use Rattle.format.specs.Saved.{saved_in}
use Rattle.catalog.specs.Lists.{listed_at, precedes}

-- n, then p (document 01's types)
abbrev pub polarities : List ℕ
polarities = 0 ∷ 1 ∷ []

-- ground, supply, 2 the input, 3 the inner node
abbrev pub node_numbers : List ℕ
node_numbers = 0 ∷ 1 ∷ 2 ∷ 3 ∷ []

-- the second ends that a first end allows: channel ends differ
abbrev pub other_ends : ℕ → List ℕ
other_ends first = flat_map (λ (n : ℕ). cond (eqb n first) [] (n ∷ [])) node_numbers

-- a transistor of 1 ohm
abbrev pub transistor : ℕ → ℕ → ℕ → ℕ → Transistor
transistor polarity gate first second = record { polarity = polarity; gate = gate; first = first; second = second; resistance = ohms 1 }

-- every one, by type, gate, first end, second end
unfoldable pub small_transistors : List Transistor
small_transistors =
    flat_map (λ p. flat_map (λ g. flat_map (λ f. map (transistor p g f) (other_ends f)) node_numbers) node_numbers) polarities

-- the input starts as letter 0, the inner node of 1 fF low
abbrev pub input_node : Node
input_node = record { role = input; start = 2; capacitance = femtofarads 0 }

abbrev pub inner_node : Node
inner_node = record { role = inner; start = 0; capacitance = femtofarads 1 }

abbrev pub small_nodes : List Node
small_nodes = input_node ∷ inner_node ∷ []

-- the cell with these transistors
abbrev pub small_cell : List Transistor → Circuit
small_cell transistors = record { letters = 1; horizon = picoseconds 10; nodes = small_nodes; transistors = transistors; schedule = [] }

-- one transistor, then two
unfoldable pub small_cells : List Circuit
small_cells =
    map (λ t. small_cell (t ∷ [])) small_transistors
    ++ flat_map (λ t. map (λ u. small_cell (t ∷ u ∷ [])) small_transistors) small_transistors

-- the file of the cell at a place: 9 past the last, then 8
abbrev pub small_file : ℕ → ℕ → Answer (List ℕ)
small_file room place = saved_in room (listed_at small_cells place)

-- What the list is to have. A cell of the stated shape:
pub record Shape (c : Circuit) : Type 0 where
  pub letters_is : c.letters ≡ 1
  pub horizon_is : c.horizon ≡ picoseconds 10
  pub nodes_are : c.nodes ≡ small_nodes
  pub least : 1 ≤ length c.transistors
  pub most : length c.transistors ≤ 2
  pub resistances_are : every (λ (t : Transistor). eqb t.resistance.0 1) c.transistors ≡ true
  pub schedule_is : c.schedule ≡ []

-- a legal cell of that shape
pub record Small (c : Circuit) : Type 0 where
  pub legal : check_circuit c ≡ answered c
  pub shape : Shape c

-- The stated order: by the number of transistors, then by the first one and the second, each by type, gate, first and second end.
abbrev pub key_of : Transistor → List ℕ
key_of t = t.polarity ∷ t.gate ∷ t.first ∷ t.second ∷ []

unfoldable pub order_of : Circuit → List ℕ
order_of c = length c.transistors ∷ flat_map key_of c.transistors

abbrev pub cell_before : Circuit → Circuit → Bool
cell_before c d = precedes (order_of c) (order_of d)
