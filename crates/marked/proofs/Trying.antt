-- Columns in which nothing was stored, once more.
use mathlib.Core.Path.{◌≡◌, refl, ◌∙◌}
use mathlib.Core.List.{List, map}
use mathlib.Core.Bool.{Bool, true, false, ◌||◌, true≢false}
use Prim.Native.Nat.{ℕ}
use Rattle.format.specs.Circuit.{Circuit}
use Rattle.diagram.specs.Held.{held}
use Rattle.table.specs.declared.Stop.{Stop}
use Rattle.rules.specs.State.{node_numbers}
use Rattle.rules.specs.Run.{store_all}
use Rattle.functions.specs.Open.{Open}
use Rattle.values.specs.All.{OutcomeAll}
use Rattle.stir.specs.Pending.{PendingLeasts}
use Rattle.attempt.specs.Attempted.{Same}
use Rattle.marked.specs.Changes.{change_of}
use Rattle.marked.proofs.Entries.{StepEntries}

module _ {k used : ℕ} {l w h ix l1 w1 h1 ix1 : List ℕ} (same : Same l w h ix l1 w1 h1 ix1) where
  pub again_open : Open k l w h ix used → Open k l1 w1 h1 ix1 used
  again_open o = rw (same.0, same.1, same.2, same.3) o

  pub again_entries : {before after pending : List ℕ} → StepEntries k (held l w h used) used before after pending → StepEntries k (held l1 w1 h1 used) used before after pending
  again_entries e = rw (same.0, same.1, same.2) e

-- and the least numbers
pub again_leasts : (k used : ℕ) {l w h ix l1 w1 h1 ix1 : List ℕ} → Same l w h ix l1 w1 h1 ix1 → (pending least : List ℕ) → PendingLeasts k (held l w h used) pending least → PendingLeasts k (held l1 w1 h1 used) pending least
again_leasts k used same pending least s = rw (same.0, same.1, same.2) s

-- what is stored by the same columns
pub again_stored : (k used : ℕ) {l w h ix l1 w1 h1 ix1 : List ℕ} → Same l w h ix l1 w1 h1 ix1
    → (c : Circuit) (time : ℕ) (all : Bool) (before after pending : List ℕ) {l2 w2 h2 ix2 : List ℕ} {stop : Stop} {most : ℕ} {out : List ℕ}
    → OutcomeAll (held l1 w1 h1 used) (store_all k (map (change_of c time all k (held l1 w1 h1 used) before after pending) (node_numbers c)) (held l1 w1 h1 used)) l2 w2 h2 ix2 stop most out
    → OutcomeAll (held l w h used) (store_all k (map (change_of c time all k (held l w h used) before after pending) (node_numbers c)) (held l w h used)) l2 w2 h2 ix2 stop most out
again_stored k used same c time all before after pending done = rw (same.0, same.1, same.2) at done

-- nothing stored by the same columns
pub again_same : {l w h ix l1 w1 h1 ix1 l2 w2 h2 ix2 : List ℕ} → Same l w h ix l1 w1 h1 ix1 → Same l1 w1 h1 ix1 l2 w2 h2 ix2 → Same l w h ix l2 w2 h2 ix2
again_same s z = (z.0 ∙ s.0, z.1 ∙ s.1, z.2 ∙ s.2, z.3 ∙ s.3)

-- the first of two tests fails
pub or_first : (a b : Bool) → (a || b) ≡ false → a ≡ false
or_first true b e = absurd (true≢false e)
or_first false b e = refl
