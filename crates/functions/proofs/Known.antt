-- An entry that is known to have a function's numbers needs no storing; what is known stays so as the table grows, and what was stored is known.
use mathlib.Core.Path.{◌≡◌, refl, sym, ◌∙◌, ap, subst}
use mathlib.Core.List.{List}
use mathlib.Core.Bool.{false}
use Prim.Native.Nat.{ℕ, suc, ◌+◌, ◌-◌, ◌<◌, ◌≤◌}
use native.Mathlib.Nat.{add-zero}
use native.Mathlib.Omega.{arith}
use lib.ListN.{length, set, replicate, length-set, length-replicate}
use Rattle.diagram.specs.Pattern.{most_letters, patterns}
use Rattle.diagram.specs.Table.{Table}
use Rattle.diagram.specs.Store.{stored, join, store}
use Rattle.diagram.specs.Held.{held}
use Rattle.diagram.proofs.Sound.{Sound}
use Rattle.diagram.specs.Extends.{Extends}
use Rattle.diagram.proofs.Number.{number_at_extends}
use Rattle.diagram.proofs.Store.{IsStored, store_stored, store_present, join_extends}
use Rattle.cache.specs.Cache.{slot_place, Looked, Kept}
use Rattle.cache.proofs.Results.{cache_none, cache_map, cache_found, cache_kept}
use Rattle.table.specs.declared.Put.{Put}
use Rattle.table.specs.declared.Stop.TheVariants.{Going}
use Rattle.table.specs.Stop.{stopped}
use Rattle.table.specs.Holds.{Outcome}
use Rattle.table.proofs.Outcomes.{put, holds_table, outcome_there}
use Rattle.functions.specs.Open.{Open}
use Rattle.functions.specs.Known.{Means, Found, Known, Caches}
use Rattle.functions.proofs.Carry.{legible_sound, legible_long, open_next}

-- an entry of a sound table means its function in every extension
pub means_extends : {letters : ℕ} {t u : Table} {e : ℕ} {f : ℕ → ℕ} → letters ≤ most_letters → Sound letters t → Extends t u → Means letters t e f → Means letters u e f
means_extends {letters} {t} {u} {e} few s x m = record {
  within = omega (arith, x.longer, m.within);
  number = λ p h. number_at_extends e p few s x m.within ∙ m.number p h;
}

-- and functions of the same numbers
pub means_same : {letters : ℕ} {t : Table} {e : ℕ} {f g : ℕ → ℕ} → Means letters t e f → ((p : ℕ) → p < patterns letters → f p ≡ g p) → Means letters t e g
means_same m h = record { within = m.within; number = λ p q. m.number p q ∙ h p q }

-- a function that a sound table has needs no storing, so the entry where it is stored has its numbers
pub there_means : {letters : ℕ} {t : Table} {f : ℕ → ℕ} {e : ℕ} → letters ≤ most_letters → Sound letters t → store letters 0 f t ≡ stored t e → Means letters t e f
there_means {letters} {t} {f} {e} few s there =
    let is : IsStored letters letters 0 f t (stored t e) = subst (IsStored letters letters 0 f t) there (store_stored letters 0 f t few s (omega arith)) in
    record { within = is.within; number = is.number }

-- nothing was found
pub found_none : {letters : ℕ} {t : Table} {f : ℕ → ℕ} → Found letters t f 0
found_none = record { means = λ n. absurd (n refl) }

-- an entry was
pub found_entry : {letters : ℕ} {t : Table} {f : ℕ → ℕ} {e : ℕ} → Means letters t e f → Found letters t f (e + 1)
found_entry {e = e} m = let z : e + 1 - 1 ≡ e = omega arith in record { means = λ _. rw z m }

-- an operation makes of a sound table's entries the same in every extension
pub record Stable (letters : ℕ) (F : Table → ℕ → ℕ → ℕ → ℕ → ℕ) : Type 0 where
  pub same : {t u : Table} → letters ≤ most_letters → Sound letters t → Extends t u → (a b c p : ℕ) → a < length t → b < length t → c < length t → F u a b c p ≡ F t a b c p

module _ {letters : ℕ} {F : Table → ℕ → ℕ → ℕ → ℕ → ℕ} (st : Stable letters F) {t u : Table} (few : letters ≤ most_letters) (s : Sound letters t) (x : Extends t u) where
  pub known_extends : {a b c e : ℕ} → Known F letters t a b c e → Known F letters u a b c e
  known_extends {a} {b} {c} k = record {
    first = omega (arith, x.longer, k.first);
    second = omega (arith, x.longer, k.second);
    third = omega (arith, x.longer, k.third);
    means = means_same (means_extends few s x k.means) (λ p _. sym (st.same few s x a b c p k.first k.second k.third));
  }

  -- so a cache stays right
  pub caches_extends : {cache : List ℕ} → Caches F letters t cache → Caches F letters u cache
  caches_extends m = record { long = m.long; known = cache_map (λ a b c e k. known_extends k) m.known }

-- a cleared cache
pub caches_none : {F : Table → ℕ → ℕ → ℕ → ℕ → ℕ} {letters : ℕ} {t : Table} (n : ℕ) → 4 ≤ n → Caches F letters t (replicate n 0)
caches_none n h = record { long = omega (arith, h, length-replicate {A = ℕ} n 0); known = cache_none n }

-- a result that was found
pub caches_found : {F : Table → ℕ → ℕ → ℕ → ℕ → ℕ} {letters : ℕ} {t : Table} {cache : List ℕ} {a b c r : ℕ} → Caches F letters t cache → Looked cache a b c r
    → Found letters t (F t a b c) r
caches_found {r = r} m f = record { means = λ n. let one : r ≡ suc (r - 1) = omega arith in (cache_found (r - 1) m.known f one).means }

-- one that was kept
kept_long : {cache out : List ℕ} {a b c e : ℕ} → Kept cache a b c e out → length out ≡ length cache
kept_long {cache} {out} {a} {b} {c} {e} k =
    let at : ℕ = slot_place k.slot in
    ap length k.is
    ∙ length-set (set (set (set cache at a) (at + 1) b) (at + 2) c) (at + 3) (e + 1)
    ∙ length-set (set (set cache at a) (at + 1) b) (at + 2) c
    ∙ length-set (set cache at a) (at + 1) b
    ∙ length-set cache at a

pub caches_kept : {F : Table → ℕ → ℕ → ℕ → ℕ → ℕ} {letters : ℕ} {t : Table} {cache out : List ℕ} {a b c e : ℕ} → Caches F letters t cache → Kept cache a b c e out → Known F letters t a b c e
    → Caches F letters t out
caches_kept m k x = record { long = omega (arith, m.long, kept_long k); known = cache_kept m.known k x }

-- in open columns
module _ {letters : ℕ} {l w h ix : List ℕ} {used : ℕ} (o : Open letters l w h ix used) where
  abbrev t : Table
  t = held l w h used

  sound : Sound letters t
  sound = legible_sound o.legible

  -- a function that an entry has needs no storing
  pub means_stored : {f : ℕ → ℕ} {e : ℕ} → Means letters (held l w h used) e f
      → Outcome (held l w h used) (store letters 0 f (held l w h used)) l w h ix (put Going e used)
  means_stored {f} {e} m = rw (store_present letters 0 f t e o.legible.few sound (add-zero letters) m.within (omega arith) m.number) (outcome_there o.holds e)

  -- two parts were joined: the cache is right in what the table has become
  pub joined_caches : {F : Table → ℕ → ℕ → ℕ → ℕ → ℕ} {cache : List ℕ} (m a b : ℕ) {l1 w1 h1 ix1 : List ℕ} {p : Put} → Stable letters F
      → Outcome (held l w h used) (join m (stored (held l w h used) a) (stored (held l w h used) b)) l1 w1 h1 ix1 p → stopped p.stop ≡ false
      → Caches F letters (held l w h used) cache → Caches F letters (held l1 w1 h1 p.used) cache
  joined_caches m a b st o1 room c = rw (holds_table (o1.holds room)) (caches_extends st o.legible.few sound (join_extends m (stored t a) (stored t b)) c)

  -- a function was stored
  module _ (f : ℕ → ℕ) {l1 w1 h1 ix1 : List ℕ} {p : Put} (o1 : Outcome (held l w h used) (store letters 0 f (held l w h used)) l1 w1 h1 ix1 p) (room : stopped p.stop ≡ false) where
    is_stored : IsStored letters letters 0 f t (store letters 0 f t)
    is_stored = store_stored letters 0 f t o.legible.few sound (omega arith)

    -- the columns are open again
    pub stored_open : Open letters l1 w1 h1 ix1 p.used
    stored_open = open_next o.legible.few is_stored.sound (o1.holds room)

    -- they hold an extension of the table
    pub stored_extends : Extends (held l w h used) (held l1 w1 h1 p.used)
    stored_extends = rw (holds_table (o1.holds room)) is_stored.extends

    -- with the entry
    pub stored_within : p.entry < p.used
    stored_within = omega (arith, o1.entry room, is_stored.within, (o1.holds room).long)

    pub stored_means : Means letters (held l1 w1 h1 p.used) p.entry f
    stored_means = rw (holds_table (o1.holds room), o1.entry room) record { within = is_stored.within; number = is_stored.number }

    -- the cache is right in what the table has become
    pub stored_caches : {F : Table → ℕ → ℕ → ℕ → ℕ → ℕ} {cache : List ℕ} → Stable letters F → Caches F letters (held l w h used) cache → Caches F letters (held l1 w1 h1 p.used) cache
    stored_caches st = caches_extends st o.legible.few sound stored_extends

  -- what an operation makes of three entries was stored
  pub stored_known : {F : Table → ℕ → ℕ → ℕ → ℕ → ℕ} (a b c : ℕ) {l1 w1 h1 ix1 : List ℕ} {p : Put} → Stable letters F → a < used → b < used → c < used
      → Outcome (held l w h used) (store letters 0 (F (held l w h used) a b c) (held l w h used)) l1 w1 h1 ix1 p → stopped p.stop ≡ false
      → Known F letters (held l1 w1 h1 p.used) a b c p.entry
  stored_known {F} a b c {l1} {w1} {h1} {ix1} {p} st ha hb hc o1 room =
      let long : length t ≡ used = legible_long o.legible in
      let f : ℕ → ℕ = F t a b c in
      let x : Extends t (held l1 w1 h1 p.used) = stored_extends f o1 room in
      record {
        first = omega (arith, x.longer);
        second = omega (arith, x.longer);
        third = omega (arith, x.longer);
        means = means_same (stored_means f o1 room) (λ i _. sym (st.same o.legible.few sound x a b c i (omega arith) (omega arith) (omega arith)));
      }
