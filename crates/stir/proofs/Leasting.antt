-- The least numbers of entries: an entry whose numbers are all later than T, and the parts of one.
use mathlib.Core.Path.{◌≡◌}
use mathlib.Core.List.{List}
use mathlib.Core.Bool.{false}
use Prim.Native.Nat.{ℕ, suc, ◌<◌}
use native.Mathlib.Omega.{arith}
use lib.ListN.{get_or}
use lib.Dec.{eqb}
use borrow.Author.Tests.{ne_eqb}
use Rattle.diagram.specs.Pattern.{patterns}
use Rattle.diagram.specs.Table.{Table, terminal_letter, number_at}
use Rattle.diagram.specs.Store.{store}
use Rattle.diagram.specs.Held.{held}
use Rattle.diagram.proofs.Sound.{Sound}
use Rattle.diagram.specs.Extends.{Extends}
use Rattle.diagram.proofs.Store.{store_stored}
use Rattle.table.specs.declared.Put.{Put}
use Rattle.table.specs.declared.Stop.TheVariants.{Going}
use Rattle.table.specs.Stop.{stopped}
use Rattle.table.specs.Holds.{Outcome}
use Rattle.table.proofs.Outcomes.{put, holds_table}
use Rattle.functions.specs.Open.{Open, Operand}
use Rattle.functions.proofs.Carry.{legible_sound, legible_long}
use Rattle.functions.proofs.Branches.{low_earlier, high_earlier}
use Rattle.record.specs.Leasts.{Leasts}
use Rattle.record.proofs.Leasts.{leasts_less, leasts_same, leasts_extends, leasts_untaken}
use Rattle.values.proofs.Single.{own_outcome}
use Rattle.values.proofs.Series.{Storing, storing_number}
use Rattle.stir.specs.Rest.{past_of}

-- no number of such an entry is T
all_later : {k : ℕ} {t : Table} {e : ℕ} {least : List ℕ} → Leasts k t (suc e) least → (time : ℕ) → time < get_or least e 0 → (p : ℕ) → p < patterns k → eqb (number_at k t e p) time ≡ false
all_later {k} {t} {e} s time l p h = ne_eqb (number_at k t e p) time (leasts_untaken s e time p l (omega arith) h)

-- so it stays
pub past_later : {k : ℕ} {l w h ix : List ℕ} {used : ℕ} (o : Open k l w h ix used) (time e : ℕ) {least : List ℕ} → e < used → Leasts k (held l w h used) (suc e) least → time < get_or least e 0
    → Outcome (held l w h used) (store k 0 (past_of time k (held l w h used) e) (held l w h used)) l w h ix (put Going e used)
past_later {k} {l} {w} {h} {ix} {used} o time e small s later = own_outcome o e (past_of time k (held l w h used) e) small (λ p i. rw (all_later s time later p i))

module _ {k : ℕ} {l w h ix : List ℕ} {used : ℕ} (o : Open k l w h ix used) {left e : ℕ} (x : Operand k (held l w h used) used left e) (node : get_or l e 0 ≡ terminal_letter → ⊥)
    {least : List ℕ} (s : Leasts k (held l w h used) (suc e) least) where
  abbrev t : Table
  t = held l w h used

  sound : Sound k t
  sound = legible_sound o.legible

  -- the low part's
  pub low_leasts : Leasts k (held l w h used) (suc (get_or w e 0)) least
  low_leasts = leasts_less s (omega (arith, low_earlier o.legible e x.within node))

  -- and the high part's, once the low one is stored
  pub high_leasts : (f : ℕ → ℕ) {l1 w1 h1 ix1 : List ℕ} {r : Put} → Outcome (held l w h used) (store k 0 f (held l w h used)) l1 w1 h1 ix1 r → stopped r.stop ≡ false
      → Leasts k (held l1 w1 h1 r.used) (suc (get_or h e 0)) least
  high_leasts f {l1} {w1} {h1} {r = r} done room =
      let extends : Extends t (held l1 w1 h1 r.used) = rw (holds_table (done.holds room)) (store_stored k 0 f t o.legible.few sound (omega arith)).extends in
      let high : get_or h e 0 < e = high_earlier o.legible e x.within node in
      leasts_extends (leasts_less s (omega (arith, high))) o.legible.few sound extends (omega (arith, high, x.within, legible_long o.legible))

-- in a loop over the nodes
pub leasts_storing : {n k : ℕ} {g : ℕ → ℕ → ℕ} {l₀ w₀ h₀ ix₀ : List ℕ} {used₀ : ℕ} {l w h ix : List ℕ} {used : ℕ} {out : List ℕ} {i : ℕ} → Storing n k g l₀ w₀ h₀ ix₀ used₀ l w h ix used out i
    → {e : ℕ} {least : List ℕ} → e < used₀ → Leasts k (held l₀ w₀ h₀ used₀) (suc e) least → Leasts k (held l w h used) (suc e) least
leasts_storing z small s = leasts_same s (λ j p h. storing_number z j p (omega arith))
