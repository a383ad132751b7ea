-- The end of a step with a cache: the columns hold both halves, and the root is kept as the result of the operands.
use mathlib.Core.Path.{◌≡◌, subst}
use mathlib.Core.List.{List}
use mathlib.Core.Bool.{false}
use Prim.Native.Nat.{ℕ, ◌<◌}
use Rattle.diagram.specs.Table.{Table}
use Rattle.diagram.specs.Store.{stored, join, store}
use Rattle.diagram.specs.Held.{held}
use Rattle.cache.specs.Cache.{Kept}
use Rattle.table.specs.declared.Put.{Put}
use Rattle.table.specs.Stop.{stopped}
use Rattle.table.specs.Holds.{Holds, Outcome}
use Rattle.functions.specs.Open.{Open}
use Rattle.functions.specs.Known.{Caches}
use Rattle.functions.proofs.Known.{Stable, caches_kept, joined_caches, stored_open, stored_within, stored_known}
use Rattle.functions.proofs.Halving.{Halves, low_open, root_done}

module _ {letters : ℕ} {l w h ix : List ℕ} {used : ℕ} (o : Open letters l w h ix used) {m : ℕ} {f low : ℕ → ℕ} {high : Table → ℕ → ℕ}
    (g : Halves letters (held l w h used) m f low high)
    {l1 w1 h1 ix1 : List ℕ} {p : Put} (o1 : Outcome (held l w h used) (store letters 0 low (held l w h used)) l1 w1 h1 ix1 p) (room : stopped p.stop ≡ false)
    {l2 w2 h2 ix2 : List ℕ} {q : Put} (o2 : Outcome (held l1 w1 h1 p.used) (store letters 0 (high (held l1 w1 h1 p.used)) (held l1 w1 h1 p.used)) l2 w2 h2 ix2 q)
    (fits : stopped q.stop ≡ false) where
  -- the columns are open with both halves
  pub high_open : Open letters l2 w2 h2 ix2 q.used
  high_open = stored_open (low_open o g o1 room) (high (held l1 w1 h1 p.used)) o2 fits

  pub high_within : q.entry < q.used
  high_within = stored_within (low_open o g o1 room) (high (held l1 w1 h1 p.used)) o2 fits

  -- the root was joined and kept
  pub root_caches : {F : Table → ℕ → ℕ → ℕ → ℕ → ℕ} (a b c : ℕ) {cache out : List ℕ} {l3 w3 h3 ix3 : List ℕ} {r : Put} → Stable letters F
      → a < used → b < used → c < used → f ≡ F (held l w h used) a b c
      → Outcome (held l2 w2 h2 q.used) (join m (stored (held l2 w2 h2 q.used) p.entry) (stored (held l2 w2 h2 q.used) q.entry)) l3 w3 h3 ix3 r
      → Caches F letters (held l2 w2 h2 q.used) cache → (stopped r.stop ≡ false → Kept cache a b c r.entry out)
      → stopped r.stop ≡ false → Caches F letters (held l3 w3 h3 r.used) out
  root_caches {F} a b c {l3 = l3} {w3} {h3} {ix3} {r} st ha hb hc same o3 known kept left =
      let done : Outcome (held l w h used) (store letters 0 (F (held l w h used) a b c) (held l w h used)) l3 w3 h3 ix3 r =
      subst (λ (x : ℕ → ℕ). Outcome (held l w h used) (store letters 0 x (held l w h used)) l3 w3 h3 ix3 r) same (root_done o g o1 room o2 fits o3) in
      caches_kept (joined_caches high_open m p.entry q.entry st o3 left known) (kept left) (stored_known o a b c st ha hb hc done left)
