-- What trying by functions leaves: where it was done, the next changes of all nodes are stored; else the columns are as they were.
use Rattle.std.specs.Prelude.{◌≡◌, List, map, Bool, true, false, ℕ}
use Rattle.diagram.specs.Held.{held}
use Rattle.rules.specs.State.{node_numbers}
use Rattle.rules.specs.Run.{store_all}
use Rattle.net.specs.Net.{letters_place, at, net_circuit}
use Rattle.values.specs.All.{OutcomeAll}
use Rattle.attempt.specs.Attempted.{Same}
use Rattle.marked.specs.declared.tries.Tried.{Tried}
use Rattle.marked.specs.Changes.{change_of}

-- by entries of a table of `used` entries, by node number
abbrev pub TriedAll : (net : List ℕ) (time : ℕ) (all : Bool) (before after pending : List ℕ) (used : ℕ) (l w h ix l1 w1 h1 ix1 : List ℕ) → Tried → Type 0
TriedAll net time all before after pending used l w h ix l1 w1 h1 ix1 r =
    (r.done ≡ true
    → OutcomeAll (held l w h used)
    (store_all (at net letters_place) (map (change_of (net_circuit net) time all (at net letters_place) (held l w h used) before after pending) (node_numbers (net_circuit net))) (held l w h used))
    l1 w1 h1 ix1 r.many.stop r.many.used r.many.entries)
    × (r.done ≡ false → Same l w h ix l1 w1 h1 ix1)
