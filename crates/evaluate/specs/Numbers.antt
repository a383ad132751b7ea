-- The numbers of one pattern.
use Rattle.std.specs.Prelude.{◌≡◌, List, ℕ, ◌+◌, ◌<◌, ◌≤◌, length, get_or}
use Rattle.net.specs.Roots.{roots_length, after_place, change_place}

-- values before and after T, in both those of the rails and bits, and the pending change
pub record Numbers (numbers : List ℕ) : Type 0 where
  pub long : length numbers ≡ roots_length
  pub ground_before : get_or numbers 0 0 ≡ 0
  pub supply_before : get_or numbers 1 0 ≡ 1
  pub ground_after : get_or numbers after_place 0 ≡ 0
  pub supply_after : get_or numbers (1 + after_place) 0 ≡ 1
  pub bits : (j : ℕ) → j < change_place → get_or numbers j 0 ≤ 1
