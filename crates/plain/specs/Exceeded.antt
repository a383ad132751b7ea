-- A walk that exceeds the ceiling (document 02, wish 3), in columns and tables of numbers: 0 stands in the place of the next change. It is none: times
-- are later than 0. So what is stored tells where a walk exceeds, and where none does it is what the rules give.
use Rattle.std.specs.Prelude.{ℕ, List, Bool, cond, eqb, Result, Ok, Err}
use Rattle.units.specs.declared.AboveCeiling.{AboveCeiling}
use Rattle.format.specs.Circuit.{Circuit}
use Rattle.rules.specs.State.{State, change_at, node_numbers}
use Rattle.rules.specs.Label.{some}
use Rattle.rules.specs.Kept.{Channel}
use Rattle.rules.specs.Step.{exceeds, next_change}

abbrev pub exceeded : ℕ
exceeded = 0

-- the number that stands for what a node's walk gives
abbrev pub number_of : Result ℕ AboveCeiling → ℕ
number_of (Ok time) = time
number_of (Err e) = exceeded

-- rules 4 to 7 of a reconsidered node, or that its walk exceeds
unfoldable pub change_or_exceeded : Circuit → ℕ → State → List Channel → ℕ → ℕ
change_or_exceeded c time s ks n = cond (exceeds c s ks n) exceeded (next_change c time s ks n)

-- some node's walk exceeds
unfoldable pub any_exceeded : Circuit → State → Bool
any_exceeded c s = some (λ (n : ℕ). eqb (change_at s n) exceeded) (node_numbers c)
