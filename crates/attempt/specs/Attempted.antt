-- What an attempt leaves: where it was done, the next change of its node is stored; else the columns are as they were.
use Rattle.std.specs.Prelude.{◌≡◌, List, Bool, true, false, ℕ}
use Rattle.diagram.specs.Store.{store}
use Rattle.diagram.specs.Held.{held}
use Rattle.table.specs.Holds.{Outcome}
use Rattle.net.specs.Net.{letters_place, at, net_circuit}
use Rattle.attempt.specs.declared.Tried.{Tried}
use Rattle.attempt.specs.Change.{change_by}

-- columns with the same numbers
abbrev pub Same : (l w h ix l1 w1 h1 ix1 : List ℕ) → Type 0
Same l w h ix l1 w1 h1 ix1 = (l1 ≡ l) × (w1 ≡ w) × (h1 ≡ h) × (ix1 ≡ ix)

-- node n by its entries, in a table of `used` entries
abbrev pub Attempted : (net : List ℕ) (time : ℕ) (all : Bool) (n : ℕ) (entries : List ℕ) (used : ℕ) (l w h ix l1 w1 h1 ix1 : List ℕ) → Tried → Type 0
Attempted net time all n entries used l w h ix l1 w1 h1 ix1 r =
    (r.done ≡ true
    → Outcome (held l w h used) (store (at net letters_place) 0 (change_by (net_circuit net) time all n (at net letters_place) (held l w h used) entries) (held l w h used)) l1 w1 h1 ix1 r.put)
    × (r.done ≡ false → Same l w h ix l1 w1 h1 ix1)
