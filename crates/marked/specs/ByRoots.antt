-- The next changes of all nodes, by the roots of a step in the working table.
use Rattle.std.specs.Prelude.{◌≡◌, List, [], ◌∷◌, ◌++◌, true, cond, ℕ, ◌+◌, get_or}
use Rattle.format.specs.Circuit.{Circuit}
use Rattle.cell.specs.Value.{firsts}
use Rattle.diagram.specs.Table.{Table, never}
use Rattle.rules.specs.State.{is_inner}
use Rattle.net.specs.Net.{letters_place, at, net_circuit}
use Rattle.net.specs.Roots.{pending_place}
use Rattle.plain.specs.Ready.{Net, Noded}
use Rattle.descent.specs.Settle.{settled_by}
use Rattle.descent.specs.Descend.{Rooted}

-- the roots of a descent for node n among the roots of a step
abbrev pub roots_for : List ℕ → ℕ → List ℕ
roots_for roots n = firsts pending_place 0 roots ++ get_or roots (pending_place + n) 0 ∷ []

-- the next change of node n at a pattern: an input has none
abbrev pub settled_for : Circuit → ℕ → ℕ → Table → List ℕ → ℕ → ℕ → ℕ
settled_for c time letters w roots n p = cond (is_inner c n) (settled_by c time n letters w (roots_for roots n) p) never

-- the roots of a step serve a descent for every inner node
pub record StepRoots (net l w h : List ℕ) (used : ℕ) (roots : List ℕ) : Type 0 where
  pub cell : Net net
  pub rooted : (n : ℕ) → Noded net n → is_inner (net_circuit net) n ≡ true → Rooted net n (at net letters_place) l w h used (roots_for roots n) (at net letters_place)
