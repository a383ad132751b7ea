-- Rule 2 as the work over all patterns goes by it: groups and seeds. No rule speaks of them. A group is the set beyond which nothing reaches (law
-- `reach-group`); a node is reconsidered exactly if its piece by the kept transistors holds a seed (law `reconsidered-kept`).
use Rattle.std.specs.Prelude.{Bool, ℕ}
use Rattle.format.specs.declared.Transistor.{Transistor}
use Rattle.format.specs.Circuit.{Circuit}
use Rattle.rules.specs.State.{State, node_numbers}
use Rattle.rules.specs.Label.{Labels, pieces, in_piece, of_piece}
use Rattle.rules.specs.Reach.{touched}

-- inner nodes linked by channels, conducting or not
unfoldable pub groups : Circuit → Labels
groups c = pieces c c.transistors

-- m is an inner node of n's group
abbrev pub in_group : Circuit → ℕ → ℕ → Bool
in_group c n m = in_piece c (groups c) n m

-- one of the transistors of n's group: a channel end is in it
abbrev pub of_group : Circuit → ℕ → Transistor → Bool
of_group c n t = of_piece c (groups c) n t

-- a seed: an inner node that is itself at an end of a disturbed transistor, each node being a piece of its own
abbrev pub is_seed : Circuit → State → State → ℕ → Bool
is_seed c before after n = touched c (node_numbers c) before after n
