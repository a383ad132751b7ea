-- One step of the recursion, after an attempt that stored nothing: the low halves, the high halves in what they left, and the root.
use mathlib.Core.Path.{◌≡◌}
use mathlib.Core.List.{List}
use mathlib.Core.Bool.{Bool, true, false}
use Prim.Native.Nat.{ℕ, ◌-◌, ◌≤◌}
use native.Mathlib.Omega.{arith}
use lib.ListN.{length}
use Rattle.format.specs.Circuit.{Circuit}
use Rattle.diagram.specs.Table.{Table}
use Rattle.diagram.specs.Store.{stored, join, store}
use Rattle.diagram.specs.Held.{held}
use Rattle.table.specs.declared.Put.{Put}
use Rattle.table.specs.Stop.{stopped}
use Rattle.table.specs.Holds.{Holds, Outcome}
use Rattle.functions.specs.Open.{Open}
use Rattle.functions.proofs.Halving.{Halves, low_full, low_open, high_full, high_holds, root_done}
use Rattle.descent.specs.Descend.{Entries, HalfOf}
use Rattle.attempt.specs.Attempted.{Same}
use Rattle.attempt.specs.Change.{change_by}
use Rattle.attempt.specs.Entries.{Evaluable}
use Rattle.evaluate.proofs.Entries.{evaluable_entries}
use Rattle.evaluate.proofs.Halved.{low_evaluable, halves_stored, next_evaluable}

module _ {k : ℕ} {l w h ix : List ℕ} {used left : ℕ} {es : List ℕ} (o : Open k l w h ix used) (e : Evaluable k (held l w h used) used left es)
    {l1 w1 h1 ix1 : List ℕ} (same : Same l w h ix l1 w1 h1 ix1) where
  pub again_open : Open k l1 w1 h1 ix1 used
  again_open = rw (same.0, same.1, same.2, same.3) o

  pub again_evaluable : Evaluable k (held l1 w1 h1 used) used left es
  again_evaluable = rw (same.0, same.1, same.2) e

  pub again_entries : (column : List ℕ) → length column ≡ length l1 → Entries column es
  again_entries column q = evaluable_entries again_open again_evaluable column q

  module _ (some : left ≡ 0 → ⊥) (most : left ≤ k) {m : ℕ} (letter : m ≡ k - left) {a b : List ℕ} (fa : HalfOf l1 w1 es m a) (fb : HalfOf l1 h1 es m b) where
    positive : 1 ≤ left
    positive = omega arith

    -- the low halves
    pub lows_evaluable : Evaluable k (held l1 w1 h1 used) used (left - 1) a
    lows_evaluable = low_evaluable again_open again_evaluable positive most letter fa

    module _ (c : Circuit) (time : ℕ) (all : Bool) (n : ℕ) where
      abbrev change : Table → List ℕ → ℕ → ℕ
      change u xs = change_by c time all n k u xs

      abbrev t : Table
      t = held l w h used

      abbrev t1 : Table
      t1 = held l1 w1 h1 used

      halves : Halves k t1 m (change t1 es) (change t1 a) (λ u. change u b)
      halves = halves_stored again_open again_evaluable positive most letter c time all n fa fb

      -- what is stored by the same columns
      back : {l2 w2 h2 ix2 : List ℕ} {r : Put} → Outcome t1 (store k 0 (change t1 es) t1) l2 w2 h2 ix2 r → Outcome t (store k 0 (change t es) t) l2 w2 h2 ix2 r
      back done = rw (same.0, same.1, same.2) at done

      module _ {l2 w2 h2 ix2 : List ℕ} {p : Put}
          (o1 : Outcome (held l1 w1 h1 used) (store k 0 (change_by c time all n k (held l1 w1 h1 used) a) (held l1 w1 h1 used)) l2 w2 h2 ix2 p) where
        -- no room for them
        pub lows_full : stopped p.stop ≡ true → Outcome (held l w h used) (store k 0 (change_by c time all n k (held l w h used) es) (held l w h used)) l2 w2 h2 ix2 p
        lows_full full = back (low_full again_open halves o1 full)

        module _ (room : stopped p.stop ≡ false) where
          -- the high halves
          pub next_open : Open k l2 w2 h2 ix2 p.used
          next_open = low_open again_open halves o1 room

          pub highs_evaluable : Evaluable k (held l2 w2 h2 p.used) p.used (left - 1) b
          highs_evaluable = next_evaluable again_open again_evaluable positive most letter c time all n fa fb o1 room

          module _ {l3 w3 h3 ix3 : List ℕ} {q : Put}
              (o2 : Outcome (held l2 w2 h2 p.used) (store k 0 (change_by c time all n k (held l2 w2 h2 p.used) b) (held l2 w2 h2 p.used)) l3 w3 h3 ix3 q) where
            -- no room for them
            pub highs_full : stopped q.stop ≡ true → Outcome (held l w h used) (store k 0 (change_by c time all n k (held l w h used) es) (held l w h used)) l3 w3 h3 ix3 q
            highs_full full = back (high_full again_open halves o1 room o2 full)

            -- the root
            pub both_hold : stopped q.stop ≡ false → Holds l3 w3 h3 ix3 (held l3 w3 h3 q.used) q.used
            both_hold fits = high_holds again_open halves o1 room o2 fits

            pub root_stored : {l4 w4 h4 ix4 : List ℕ} {r : Put} → stopped q.stop ≡ false
                → Outcome (held l3 w3 h3 q.used) (join m (stored (held l3 w3 h3 q.used) p.entry) (stored (held l3 w3 h3 q.used) q.entry)) l4 w4 h4 ix4 r
                → Outcome (held l w h used) (store k 0 (change_by c time all n k (held l w h used) es) (held l w h used)) l4 w4 h4 ix4 r
            root_stored fits o3 = back (root_done again_open halves o1 room o2 fits o3)
