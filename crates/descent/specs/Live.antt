-- The roots that are not entry 0, by a list of places.
use Rattle.std.specs.Prelude.{◌≡◌, ◌⊎◌, List, ℕ, ◌<◌, ◌≤◌, length, get_or}
use Rattle.net.specs.Roots.{roots_length}

-- place j is one of the first `count` of a list
abbrev pub Listed : List ℕ → ℕ → ℕ → Type 0
Listed live count j = (i : ℕ) × (i < count) × (get_or live i 0 ≡ j)

-- what the first `count` of a list are
pub record Places (live : List ℕ) (count : ℕ) : Type 0 where
  pub long : length live ≡ roots_length
  pub few : count ≤ roots_length
  pub place : (i : ℕ) → i < count → get_or live i 0 < roots_length

-- roots whose places are listed, but for those that are entry 0
pub record Live (roots live : List ℕ) (count : ℕ) : Type 0 where
  pub long : length roots ≡ roots_length
  pub places : Places live count
  pub listed : (j : ℕ) → j < roots_length → (get_or roots j 0 ≡ 0) ⊎ Listed live count j
