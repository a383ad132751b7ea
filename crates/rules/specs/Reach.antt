-- Step rule 2, as document 02's wish 2 amends it: the nodes that a step reconsiders are those from which conducting channels lead to an end of a
-- disturbed transistor.
use Rattle.std.specs.Prelude.{ℕ, Bool, ◌&&◌, ◌||◌}
use Rattle.format.specs.declared.Transistor.{Transistor}
use Rattle.format.specs.Circuit.{Circuit}
use Rattle.format.specs.Legal.{is_input}
use Rattle.rules.specs.State.{State, is_inner}
use Rattle.rules.specs.Arrive.{changed}
use Rattle.rules.specs.Label.{Labels, pieces, of_piece, some, only}
use Rattle.rules.specs.Kept.{conducts}

-- a channel that conducts just before or just after the values of T are set
abbrev pub conducts_around : State → State → Transistor → Bool
conducts_around before after t = conducts before t || conducts after t

-- the inner nodes to which such channels lead from one another, through inner nodes: as pieces
unfoldable pub reach : Circuit → State → State → Labels
reach c before after = pieces c (only (conducts_around before after) c.transistors)

-- an input that changed at T
abbrev pub input_changed : Circuit → State → State → ℕ → Bool
input_changed c before after n = is_input c n && changed before after n

-- a transistor whose gate changed at T, or an input at a channel end did; it need not conduct
abbrev pub disturbed : Circuit → State → State → Transistor → Bool
disturbed c before after t =
    changed before after t.gate || input_changed c before after t.first || input_changed c before after t.second

-- n's piece holds an inner node at an end of a disturbed transistor; n itself may be that node
unfoldable pub touched : Circuit → Labels → State → State → ℕ → Bool
touched c ls before after n = some (λ (t : Transistor). of_piece c ls n t && disturbed c before after t) c.transistors

-- the nodes that a step reconsiders
abbrev pub reconsidered : Circuit → State → State → ℕ → Bool
reconsidered c before after n = is_inner c n && touched c (reach c before after) before after n
