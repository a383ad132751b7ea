-- What a cache beside the working table knows: nothing at first, the same in every extension, what was found, and what was kept.
use mathlib.Core.Path.{◌≡◌}
use mathlib.Core.Logic.{⊎_elim}
use mathlib.Core.List.{List}
use mathlib.Core.Bool.{false}
use Prim.Native.Nat.{ℕ, ◌-◌, ◌<◌, ◌≤◌}
use native.Mathlib.Nat.{add-zero}
use native.Mathlib.Omega.{arith}
use lib.ListN.{length, replicate, length-replicate}
use Rattle.lists.proofs.Cases.{eq_or_ne}
use Rattle.diagram.specs.Table.{Table, branch}
use Rattle.diagram.specs.Store.{stored, join, store}
use Rattle.diagram.specs.Held.{held}
use Rattle.diagram.specs.Extends.{Extends}
use Rattle.diagram.proofs.Add.{added}
use Rattle.diagram.proofs.Store.{store_present, join_same, join_differ, join_extends}
use Rattle.cache.specs.Cache.{Looked, Kept}
use Rattle.cache.proofs.Results.{cache_none, cache_map, cache_found, cache_kept}
use Rattle.table.specs.declared.Put.{Put}
use Rattle.table.specs.declared.Stop.TheVariants.{Going}
use Rattle.table.specs.Stop.{stopped}
use Rattle.table.specs.Holds.{Outcome}
use Rattle.table.proofs.Outcomes.{put, holds_table, outcome_there}
use Rattle.functions.specs.Open.{Open}
use Rattle.functions.specs.Known.{Means}
use Rattle.working.specs.Grown.{Grown}
use Rattle.working.specs.Known.{Known}
use Rattle.working.proofs.Grow.{means_extends, open_few, open_sound, outcome_grown}

-- a cleared cache
pub known_none : {letters : ℕ} {t : Table} {F : ℕ → ℕ → ℕ → ℕ → ℕ} (n : ℕ) → 4 ≤ n → Known letters t F (replicate n 0)
known_none n le = record { long = omega (arith, length-replicate {A = ℕ} n 0); results = cache_none n }

-- two parts joined: the entry is one of the table's
join_within : (m a b : ℕ) (t : Table) → b < length t → (join m (stored t a) (stored t b)).entry < length (join m (stored t a) (stored t b)).table
join_within m a b t h =
    ⊎_elim
    (λ (e : a ≡ b). rw (join_same m (stored t a) (stored t b) e) h)
    (λ (n : a ≡ b → ⊥). rw (join_differ m (stored t a) (stored t b) n) (added (branch m a b) t).within)
    (eq_or_ne a b)

-- and a small number
pub joined_small : (m a b : ℕ) {t : Table} {l w h ix : List ℕ} {r : Put} → b < length t → Outcome t (join m (stored t a) (stored t b)) l w h ix r → stopped r.stop ≡ false → r.entry < 4294967295
joined_small m a b {t} lt o room =
    omega (arith, o.entry room, join_within m a b t lt, (o.holds room).ready.fits, (o.holds room).long, (o.holds room).ready.sized.most)

-- in open columns
module _ {letters : ℕ} {l w h ix : List ℕ} {used : ℕ} (o : Open letters l w h ix used) where
  abbrev t : Table
  t = held l w h used

  -- an entry that is there needs no storing
  pub means_stored : {e : ℕ} {f : ℕ → ℕ} → Means letters (held l w h used) e f
      → Outcome (held l w h used) (store letters 0 f (held l w h used)) l w h ix (put Going e used)
  means_stored {e} {f} m =
      rw (store_present letters 0 f t e (open_few o) (open_sound o) (add-zero letters) m.within (omega arith) m.number) (outcome_there o.holds e)

  -- what was found is there
  pub known_found : {F : ℕ → ℕ → ℕ → ℕ → ℕ} {cache : List ℕ} {a b c r : ℕ} → Known letters (held l w h used) F cache → Looked cache a b c r → (r ≡ 0 → ⊥)
      → Outcome (held l w h used) (store letters 0 (F a b c) (held l w h used)) l w h ix (put Going (r - 1) used)
  known_found {r = r} m f n = means_stored (cache_found (r - 1) m.results f (omega (arith, n)))

  -- what is known stays right as the table grows
  pub known_extends : {F : ℕ → ℕ → ℕ → ℕ → ℕ} {cache : List ℕ} {u : Table} → Known letters (held l w h used) F cache → Extends (held l w h used) u → Known letters u F cache
  known_extends m x = record { long = m.long; results = cache_map (λ a b c e s. means_extends (open_few o) (open_sound o) x s) m.results }

  -- as it does
  pub known_grown : {f : ℕ → ℕ} {l1 w1 h1 ix1 : List ℕ} {p : Put} → Grown letters (held l w h used) f l1 w1 h1 ix1 p → stopped p.stop ≡ false
      → {F : ℕ → ℕ → ℕ → ℕ → ℕ} {cache : List ℕ} → Known letters (held l w h used) F cache → Known letters (held l1 w1 h1 p.used) F cache
  known_grown g room m = known_extends m (g.extends room)

  -- as two parts are joined
  pub known_joined : (m a b : ℕ) {l1 w1 h1 ix1 : List ℕ} {p : Put} → Outcome (held l w h used) (join m (stored (held l w h used) a) (stored (held l w h used) b)) l1 w1 h1 ix1 p → stopped p.stop ≡ false
      → {F : ℕ → ℕ → ℕ → ℕ → ℕ} {cache : List ℕ} → Known letters (held l w h used) F cache → Known letters (held l1 w1 h1 p.used) F cache
  known_joined m a b q room k = known_extends k (rw (holds_table (q.holds room)) (join_extends m (stored t a) (stored t b)))

  -- what was stored and kept is known
  pub known_kept : {l1 w1 h1 ix1 : List ℕ} {p : Put} {F : ℕ → ℕ → ℕ → ℕ → ℕ} {cache out : List ℕ} {a b c : ℕ}
      → Outcome (held l w h used) (store letters 0 (F a b c) (held l w h used)) l1 w1 h1 ix1 p → stopped p.stop ≡ false
      → Known letters (held l1 w1 h1 p.used) F cache → Kept cache a b c p.entry out → length out ≡ length cache → Known letters (held l1 w1 h1 p.used) F out
  known_kept q room m k same = record { long = omega (arith, m.long, same); results = cache_kept m.results k ((outcome_grown o q).means room) }
