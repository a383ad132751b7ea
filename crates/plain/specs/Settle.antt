-- The next change of a node between two states of a pattern: before T, and once all of T has happened.
use Rattle.std.specs.Prelude.{ℕ, ◌+◌, ◌≤◌, ◌<◌, List, map, Bool, true, false, cond, ◌≡◌, get_or, eqb}
use Rattle.format.specs.Circuit.{Circuit, first_node_number}
use Rattle.diagram.specs.Table.{never}
use Rattle.rules.specs.State.{State, change_at, is_inner, node_numbers}
use Rattle.rules.specs.Arrive.{arrived}
use Rattle.rules.specs.Reach.{reconsidered}
use Rattle.rules.specs.Kept.{kept}
use Rattle.rules.specs.Step.{initial}
use Rattle.net.specs.Net.{nodes_place, at, net_circuit}
use Rattle.net.specs.Laid.{Laid}
use Rattle.plain.specs.Exceeded.{change_or_exceeded}
use Rattle.plain.specs.Ready.{Noded}
use Rattle.plain.specs.Shown.{Column, Shows}

-- the pending change once T has happened: a node whose change was T has flipped, and has none
abbrev pub pending_after : ℕ → ℕ → ℕ
pending_after time pending = cond (eqb pending time) never pending

-- whether node n is reconsidered; where `all`, every inner node is
abbrev pub considers : Circuit → Bool → State → State → ℕ → Bool
considers c all before after n = cond all (is_inner c n) (reconsidered c before after n)

-- rules 2 to 7: the next change of node n, or that its walk exceeds the ceiling
abbrev pub change_between : Circuit → ℕ → Bool → State → State → ℕ → ℕ
change_between c time all before after n =
    cond (considers c all before after n) (change_or_exceeded c time after (kept c after) n) (change_at after n)

-- a legal cell laid out, and the values of its nodes before and after T
pub record Between (net old new : List ℕ) : Type 0 where
  pub cell : Laid (net_circuit net) net
  pub before : Column old
  pub after : Column new
  pub bits : (n : ℕ) → n < first_node_number + at net nodes_place → get_or new n 0 ≤ 1

-- states with these values, and with these pending changes once T has happened
pub record Showing (net : List ℕ) (time : ℕ) (old new changes : List ℕ) (s t : State) : Type 0 where
  pub before : Shows (net_circuit net) old s
  pub after : Shows (net_circuit net) new t
  pub pending : (n : ℕ) → Noded net n → change_at t n ≡ pending_after time (get_or changes n 0)

-- the state after a start and after a step, or what exceeds in them
unfoldable pub started_or_exceeded : Circuit → ℕ → State
started_or_exceeded c p =
    let s = initial c p in
    record { values = s.values; changes = map (change_between c 0 true s s) (node_numbers c) }

unfoldable pub stepped_or_exceeded : Circuit → ℕ → ℕ → State → State
stepped_or_exceeded c time p s =
    let after = arrived c time p s in
    record { values = after.values; changes = map (change_between c time false s after) (node_numbers c) }
