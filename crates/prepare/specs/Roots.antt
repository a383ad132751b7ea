-- The roots of a step: for each node its value, whether it is a seed and its next change, for each transistor whether it is kept.
use Rattle.std.specs.Prelude.{◌≡◌, List, Bool, true, ◌||◌, ℕ, ◌+◌, ◌<◌, ◌≤◌, get_or}
use Rattle.format.specs.Circuit.{first_node_number}
use Rattle.diagram.specs.Pattern.{patterns}
use Rattle.diagram.specs.Table.{Table, number_at}
use Rattle.diagram.specs.Held.{held}
use Rattle.functions.specs.Open.{Open}
use Rattle.working.specs.Grown.{bit}
use Rattle.working.specs.Many.{AllUsed}
use Rattle.rules.specs.State.{State, is_inner}
use Rattle.rules.specs.Group.{of_group, is_seed}
use Rattle.rules.specs.Matrix.{is_kept, transistor_at}
use Rattle.net.specs.Net.{nodes_place, transistors_place, at, net_circuit, net_group}
use Rattle.net.specs.Roots.{kept_place, seeds_place, pending_place, all_roots_length}
use Rattle.prepare.specs.Steps.{Shows, considered}

-- the nodes' roots of the first `count` nodes stand in their places, and 0 elsewhere
pub record NodeRoots (values seeds waiting : List ℕ) (count : ℕ) (roots : List ℕ) : Type 0 where
  pub value_at_lem : (n : ℕ) → n < count → get_or roots n 0 ≡ get_or values n 0
  pub seed_at : (n : ℕ) → n < count → get_or roots (seeds_place + n) 0 ≡ get_or seeds n 0
  pub pending_at : (n : ℕ) → n < count → get_or roots (pending_place + n) 0 ≡ get_or waiting n 0
  pub rest_at : (j : ℕ) → (j < 26 → count ≤ j) → (seeds_place ≤ j → j < pending_place → seeds_place + count ≤ j) → (pending_place ≤ j → pending_place + count ≤ j) → get_or roots j 0 ≡ 0

-- the kept functions of the first `count` transistors stand in their places, and elsewhere what was there
pub record KeptRoots (before kept : List ℕ) (count : ℕ) (roots : List ℕ) : Type 0 where
  pub kept_at : (i : ℕ) → i < count → get_or roots (kept_place + i) 0 ≡ get_or kept i 0
  pub below_at : (j : ℕ) → j < kept_place → get_or roots j 0 ≡ get_or before j 0
  pub above_at : (j : ℕ) → kept_place + count ≤ j → get_or roots j 0 ≡ get_or before j 0

-- the roots are entries of the working table in the columns; t is the lent table, and `before`, `after` and `pending` are entries of it
pub record Roots (net : List ℕ) (letters : ℕ) (t : Table) (before after pending : List ℕ) (all : Bool) (only : ℕ) (l w h ix : List ℕ) (used : ℕ) (roots : List ℕ) : Type 0 where
  pub opened : Open letters l w h ix used
  pub within : AllUsed all_roots_length roots used
  -- values and next changes are those of the lent table
  pub value_is : (n p : ℕ) → n < first_node_number + at net nodes_place → p < patterns letters → number_at letters (held l w h used) (get_or roots n 0) p ≡ number_at letters t (get_or after n 0) p
  pub pending_is : (n p : ℕ) → n < first_node_number + at net nodes_place → p < patterns letters → number_at letters (held l w h used) (get_or roots (pending_place + n) 0) p ≡ number_at letters t (get_or pending n 0) p
  -- rule 2: an inner node of a considered group is a seed where the rule says so, or everywhere at the start
  pub seed_is : (n p : ℕ) (sb sa : State) → n < first_node_number + at net nodes_place → is_inner (net_circuit net) n ≡ true → considered only (net_group net n) ≡ true → p < patterns letters
      → Shows letters t before (at net nodes_place) p sb → Shows letters t after (at net nodes_place) p sa
      → number_at letters (held l w h used) (get_or roots (seeds_place + n) 0) p ≡ bit (all || is_seed (net_circuit net) sb sa n)
  -- rule 3: where it is one, the transistors of its group are kept exactly if the rule keeps them
  pub kept_is : (n i p : ℕ) (sa : State) → n < first_node_number + at net nodes_place → is_inner (net_circuit net) n ≡ true → considered only (net_group net n) ≡ true → p < patterns letters
      → Shows letters t after (at net nodes_place) p sa → number_at letters (held l w h used) (get_or roots (seeds_place + n) 0) p ≡ 1
      → i < at net transistors_place → of_group (net_circuit net) n (transistor_at (net_circuit net) i) ≡ true
      → number_at letters (held l w h used) (get_or roots (kept_place + i) 0) p ≡ bit (is_kept (net_circuit net) sa i)
  -- and nowhere is a transistor kept that the rule does not keep
  pub kept_only : (i p : ℕ) (sa : State) → p < patterns letters → Shows letters t after (at net nodes_place) p sa → i < at net transistors_place
      → number_at letters (held l w h used) (get_or roots (kept_place + i) 0) p ≡ 1 → is_kept (net_circuit net) sa i ≡ true
