-- Entries of the lent table by which a node is evaluated.
use Rattle.std.specs.Prelude.{◌≡◌, List, ℕ, ◌+◌, ◌<◌, ◌≤◌, length, get_or}
use Rattle.diagram.specs.Pattern.{patterns}
use Rattle.diagram.specs.Table.{Table, number_at}
use Rattle.net.specs.Roots.{roots_length, after_place, change_place}
use Rattle.functions.specs.Open.{Operand}

-- the rails' values are their terminals, the others' are bits, and all letters are among the last `left` of the k
pub record Evaluable (k : ℕ) (t : Table) (used left : ℕ) (entries : List ℕ) : Type 0 where
  pub long : length entries ≡ roots_length
  pub operand : (j : ℕ) → j < roots_length → Operand k t used left (get_or entries j 0)
  pub ground_before : get_or entries 0 0 ≡ 0
  pub supply_before : get_or entries 1 0 ≡ 1
  pub ground_after : get_or entries after_place 0 ≡ 0
  pub supply_after : get_or entries (1 + after_place) 0 ≡ 1
  pub bits : (j p : ℕ) → j < change_place → p < patterns k → number_at k t (get_or entries j 0) p ≤ 1
