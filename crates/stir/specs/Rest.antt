-- What a step stirs, and the next changes where it stirs nothing: the pending ones with T taken out.
use Rattle.std.specs.Prelude.{List, Bool, ◌&&◌, cond, ℕ, get_or}
use Rattle.format.specs.declared.Transistor.{Transistor}
use Rattle.format.specs.Circuit.{Circuit}
use Rattle.diagram.specs.Table.{Table, never, number_at}
use Rattle.rules.specs.State.{is_inner}
use Rattle.rules.specs.Label.{some}
use Rattle.rules.specs.Group.{of_group}
use Rattle.plain.specs.Shown.{disturbed_at}
use Rattle.plain.specs.Settle.{pending_after}

-- some transistor has a gate, or an input at a channel end, whose entries before and after T differ
abbrev pub stirred_by : Circuit → List ℕ → List ℕ → Bool
stirred_by c before after = some (disturbed_at c before after) c.transistors

-- some transistor of node n's group has
abbrev pub stirred_for : Circuit → List ℕ → List ℕ → ℕ → Bool
stirred_for c before after n = some (λ (t : Transistor). of_group c n t && disturbed_at c before after t) c.transistors

-- entry e at a pattern, with T taken out
abbrev pub past_of : ℕ → ℕ → Table → ℕ → ℕ → ℕ
past_of time letters t e p = pending_after time (number_at letters t e p)

-- the same as an operation on entries: there is no second and no third operand
abbrev pub passes : ℕ → ℕ → Table → (e b c : ℕ) → ℕ → ℕ
passes time letters t e b c p = past_of time letters t e p

-- the next change of node n by pending change e: an input has none
abbrev pub rest_with : Circuit → ℕ → ℕ → Table → ℕ → ℕ → ℕ → ℕ
rest_with c time letters t e n p = cond (is_inner c n) (past_of time letters t e p) never

-- and by its own
abbrev pub rest_of : Circuit → ℕ → ℕ → Table → List ℕ → ℕ → ℕ → ℕ
rest_of c time letters t pending n p = rest_with c time letters t (get_or pending n 0) n p
