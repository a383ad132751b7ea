-- The state of a cell for one pattern.
use Rattle.std.specs.Prelude.{ℕ, zero, suc, ◌-◌, List, [], ◌∷◌, Bool, not, ◌||◌, cond, length, get_or, ltb}
use Rattle.format.specs.Circuit.{Circuit, first_node_number}
use Rattle.format.specs.Legal.{is_input}
use Rattle.diagram.specs.Table.{never}

-- values and next changes of the node records, in order; a next change is a time, or never
pub record State : Type 0 where
  pub values : List ℕ
  pub changes : List ℕ

-- a node's value; a rail's value is its number: ground, node 0, is 0 and supply, node 1, is 1
abbrev pub value_at : State → ℕ → ℕ
value_at s n = cond (ltb n first_node_number) n (get_or s.values (n - first_node_number) 0)

-- a node's next change; rails have never
abbrev pub change_at : State → ℕ → ℕ
change_at s n = cond (ltb n first_node_number) never (get_or s.changes (n - first_node_number) never)

-- n numbers from k on
unfoldable pub up_from : ℕ → ℕ → List ℕ
up_from zero k = []
up_from (suc n) k = k ∷ up_from n (suc k)

-- the numbers of the node records
abbrev pub node_numbers : Circuit → List ℕ
node_numbers c = up_from (length c.nodes) first_node_number

-- a driven end: a rail or an input
abbrev pub is_driven : Circuit → ℕ → Bool
is_driven c n = ltb n first_node_number || is_input c n

abbrev pub is_inner : Circuit → ℕ → Bool
is_inner c n = not (is_driven c n)
