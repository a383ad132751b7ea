-- Lines one behind the other.
use Rattle.std.specs.Prelude.{ℕ, zero, suc, List, [], ◌++◌}

-- the first n of some lines, by their places from 0
unfoldable pub lines_of : ℕ → (ℕ → List ℕ) → List ℕ
lines_of zero line = []
lines_of (suc n) line = lines_of n line ++ line n
