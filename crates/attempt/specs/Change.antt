-- The next change of a node by the numbers of one pattern: values before and after T by node number, and the node's pending change.
use Rattle.std.specs.Prelude.{List, Bool, ◌||◌, cond, ℕ, get_or, drop}
use Rattle.format.specs.Circuit.{Circuit}
use Rattle.diagram.specs.Table.{Table}
use Rattle.rules.specs.State.{State}
use Rattle.rules.specs.Reach.{reconsidered}
use Rattle.rules.specs.Kept.{kept}
use Rattle.net.specs.Roots.{after_place, change_place}
use Rattle.plain.specs.Exceeded.{change_or_exceeded}
use Rattle.plain.specs.Leaf.{leaf_state}
use Rattle.plain.specs.Settle.{pending_after}
use Rattle.descent.specs.Settle.{leaf_at}

-- the pending change once T has happened
abbrev pub pending_in : ℕ → List ℕ → ℕ
pending_in time numbers = pending_after time (get_or numbers change_place 0)

-- the states before T and once all of T has happened
abbrev pub before_state : Circuit → List ℕ → State
before_state c numbers = leaf_state c 0 numbers

abbrev pub after_state : Circuit → ℕ → List ℕ → State
after_state c time numbers = leaf_state c (pending_in time numbers) (drop after_place numbers)

-- rules 2 to 7: reconsidered, everywhere where `all`, else the pending change. Where the walk exceeds the ceiling, that (plain's Exceeded).
unfoldable pub change_from : Circuit → ℕ → Bool → ℕ → List ℕ → ℕ
change_from c time all n numbers =
    cond (all || reconsidered c (before_state c numbers) (after_state c time numbers) n)
    (change_or_exceeded c time (after_state c time numbers) (kept c (after_state c time numbers)) n)
    (pending_in time numbers)

-- the same over all patterns, by entries of a table
abbrev pub change_by : Circuit → ℕ → Bool → ℕ → ℕ → Table → List ℕ → ℕ → ℕ
change_by c time all n letters t entries p = change_from c time all n (leaf_at letters t entries p)
