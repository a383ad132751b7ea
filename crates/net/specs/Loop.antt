-- Loops of channels between inner nodes: a transistor whose ends those before it have linked already, conducting or not.
use Rattle.std.specs.Prelude.{Bool, ◌&&◌, ℕ, get_or, take}
use Rattle.format.specs.declared.Transistor.{Transistor}
use Rattle.format.specs.Circuit.{Circuit, no_transistor}
use Rattle.rules.specs.State.{node_numbers}
use Rattle.rules.specs.Label.{Labels, joined, between_inner, link_from}

-- the labels after the first k transistors
abbrev pub linked_to : Circuit → ℕ → Labels
linked_to c k = link_from c (node_numbers c) (take k c.transistors)

-- with these labels before it a transistor closes a loop
abbrev pub closes_loop : Circuit → Labels → Transistor → Bool
closes_loop c ls t = between_inner c t && joined ls t.first t.second

-- transistor i closes a loop
abbrev pub closes : Circuit → ℕ → Bool
closes c i = closes_loop c (linked_to c i) (get_or c.transistors i no_transistor)
