-- Values in a column by node number: the states that they show, and what changed between two of them.
use Rattle.std.specs.Prelude.{ℕ, List, Bool, not, ◌&&◌, ◌||◌, ◌≡◌, length, get_or, take, drop, eqb}
use Rattle.format.specs.declared.Transistor.{Transistor}
use Rattle.format.specs.Circuit.{Circuit, first_node_number}
use Rattle.format.specs.Legal.{is_input}
use Rattle.rules.specs.State.{State, is_inner}

-- 26 values; a rail's is its number
pub record Column (column : List ℕ) : Type 0 where
  pub long : length column ≡ 26
  pub ground : get_or column 0 0 ≡ 0
  pub supply : get_or column 1 0 ≡ 1

-- the state has the column's values, and any next changes
abbrev pub Shows : Circuit → List ℕ → State → Type 0
Shows c column s = s.values ≡ take (length c.nodes) (drop first_node_number column)

-- the tests of a step, read off two columns
abbrev pub changed_at : List ℕ → List ℕ → ℕ → Bool
changed_at before after n = not (eqb (get_or before n 0) (get_or after n 0))

abbrev pub input_changed_at : Circuit → List ℕ → List ℕ → ℕ → Bool
input_changed_at c before after n = is_input c n && changed_at before after n

abbrev pub disturbed_at : Circuit → List ℕ → List ℕ → Transistor → Bool
disturbed_at c before after t =
    changed_at before after t.gate || input_changed_at c before after t.first || input_changed_at c before after t.second

-- and off labels
abbrev pub in_piece_at : Circuit → List ℕ → ℕ → ℕ → Bool
in_piece_at c labels n m = is_inner c m && eqb (get_or labels n 0) (get_or labels m 0)

abbrev pub of_piece_at : Circuit → List ℕ → ℕ → Transistor → Bool
of_piece_at c labels n t = in_piece_at c labels n t.first || in_piece_at c labels n t.second
