-- A memo beside a table: empty at first, right in every extension of the table, an entry that is there, and one more that was stored.
use mathlib.Core.Path.{◌≡◌, sym, ◌∙◌, ap, subst}
use mathlib.Core.Logic.{⊎_elim}
use mathlib.Core.List.{List}
use mathlib.Core.Bool.{false}
use Prim.Native.Nat.{ℕ, suc, ◌-◌, ◌<◌, ◌≤◌}
use native.Mathlib.Nat.{add-zero}
use native.Mathlib.Omega.{arith}
use lib.ListN.{length, get_or, replicate, length-replicate, get_or-replicate}
use Rattle.lists.proofs.Cases.{eq_or_ne}
use Rattle.diagram.specs.Pattern.{most_letters, patterns}
use Rattle.diagram.specs.Table.{Table}
use Rattle.diagram.specs.Store.{stored, join, store}
use Rattle.diagram.specs.Held.{held}
use Rattle.diagram.proofs.Sound.{Sound}
use Rattle.diagram.specs.Extends.{Extends}
use Rattle.diagram.proofs.Number.{number_at_extends}
use Rattle.diagram.proofs.Store.{IsStored, store_stored, store_present, join_extends}
use Rattle.table.specs.declared.Put.{Put}
use Rattle.table.specs.declared.Stop.TheVariants.{Going}
use Rattle.table.specs.Stop.{stopped}
use Rattle.table.specs.Holds.{Outcome}
use Rattle.table.proofs.Outcomes.{put, holds_table, outcome_there}
use Rattle.functions.specs.Open.{Open}
use Rattle.functions.proofs.Carry.{legible_sound, open_next}
use Rattle.functions.specs.Known.{Means}
use Rattle.descent.specs.Memo.{slots, memo_length, slot_roots, Memo, Looked, Remembered}

module _ {F : List ℕ → ℕ → ℕ} {k : ℕ} where
  -- free slots say nothing
  pub memo_empty : (t : Table) (memo : List ℕ) → memo_length ≤ length memo → ((s : ℕ) → s < slots → get_or memo s 0 ≡ 0) → Memo F k t memo
  memo_empty t memo long free = record { long = long; is = λ s e h g. absurd (omega (arith, free s h)) }

  -- as those of a new memo
  pub memo_new : (t : Table) → Memo F k t (replicate memo_length 0)
  memo_new t = memo_empty t (replicate memo_length 0) (omega (arith, length-replicate {A = ℕ} memo_length 0)) (λ s h. get_or-replicate {A = ℕ} memo_length s 0 0 (omega arith))

  -- what it says stays right as the table grows
  pub memo_extends : {t u : Table} {memo : List ℕ} → k ≤ most_letters → Sound k t → Extends t u → Memo F k t memo → Memo F k u memo
  memo_extends {t} {u} {memo} few s x m = record {
    long = m.long;
    is = λ i e h g.
        let a : Means k t e (F (slot_roots memo i)) = m.is i e h g in
        record { within = omega (arith, a.within, x.longer); number = λ p l. number_at_extends e p few s x a.within ∙ a.number p l };
  }

  -- one slot more
  pub memo_more : {t : Table} {memo out roots : List ℕ} {slot e : ℕ} → Memo F k t memo → Means k t e (F roots) → Remembered memo slot roots e out → Memo F k t out
  memo_more {t} {memo} {out} {roots} {slot} {e} m a r = record {
    long = r.long;
    is = λ s i h g.
        ⊎_elim
        (λ (q : s ≡ slot).
        let w : get_or out s 0 ≡ suc e = ap (λ (j : ℕ). get_or out j 0) q ∙ r.word in
        let same : i ≡ e = omega arith in
        rw (q, r.key, same) a)
        (λ (n : s ≡ slot → ⊥). rw (r.other_key s h n) (m.is s i h (sym (r.other_word s h n) ∙ g)))
        (eq_or_ne s slot);
  }

-- in open columns
module _ {k : ℕ} {l w h ix : List ℕ} {used : ℕ} (o : Open k l w h ix used) where
  abbrev t : Table
  t = held l w h used

  sound : Sound k t
  sound = legible_sound o.legible

  -- the entry of roots that were met before needs no storing
  pub memo_hit : {F : List ℕ → ℕ → ℕ} {memo roots : List ℕ} {slot r : ℕ} → Memo F k (held l w h used) memo → slot < slots → Looked memo slot roots r → (r ≡ 0 → ⊥)
      → Outcome (held l w h used) (store k 0 (F roots) (held l w h used)) l w h ix (put Going (r - 1) used)
  memo_hit {F} {memo} {roots} {slot} {r} m small f n =
      let e : ℕ = r - 1 in
      let one : r ≡ suc e = omega arith in
      let a : Means k t e (F roots) = subst (λ (xs : List ℕ). Means k t e (F xs)) (f.key n) (m.is slot e small (sym (f.word n) ∙ one)) in
      rw (store_present k 0 (F roots) t e o.legible.few sound (add-zero k) a.within (omega arith) a.number) (outcome_there o.holds e)

  -- a function was stored
  module _ (f : ℕ → ℕ) {l1 w1 h1 ix1 : List ℕ} {p : Put} (o1 : Outcome (held l w h used) (store k 0 f (held l w h used)) l1 w1 h1 ix1 p) (room : stopped p.stop ≡ false) where
    is_stored : IsStored k k 0 f t (store k 0 f t)
    is_stored = store_stored k 0 f t o.legible.few sound (omega arith)

    -- the memo is right in what the table has become
    pub memo_after : {F : List ℕ → ℕ → ℕ} {memo : List ℕ} → Memo F k (held l w h used) memo → Memo F k (held l1 w1 h1 p.used) memo
    memo_after m = rw (holds_table (o1.holds room)) (memo_extends o.legible.few sound is_stored.extends m)

    -- the columns are open again
    pub after_open : Open k l1 w1 h1 ix1 p.used
    after_open = open_next o.legible.few is_stored.sound (o1.holds room)

    -- the entry is one of the table's
    pub after_small : p.entry < 65536
    after_small = omega (arith, o1.entry room, is_stored.within, (o1.holds room).ready.fits, (o1.holds room).long, (o1.holds room).ready.sized.most)

    -- and has the function's numbers
    pub after_means : (F : List ℕ → ℕ → ℕ) (roots : List ℕ) → ((x : ℕ) → x < patterns k → F roots x ≡ f x) → Means k (held l1 w1 h1 p.used) p.entry (F roots)
    after_means F roots same =
        rw (holds_table (o1.holds room), o1.entry room)
        record { within = is_stored.within; number = λ x g. is_stored.number x g ∙ sym (same x g) }

  -- two parts were joined
  pub memo_join : {F : List ℕ → ℕ → ℕ} {memo : List ℕ} (m a b : ℕ) {l1 w1 h1 ix1 : List ℕ} {p : Put}
      → Outcome (held l w h used) (join m (stored (held l w h used) a) (stored (held l w h used) b)) l1 w1 h1 ix1 p → stopped p.stop ≡ false
      → Memo F k (held l w h used) memo → Memo F k (held l1 w1 h1 p.used) memo
  memo_join m a b o1 room x = rw (holds_table (o1.holds room)) (memo_extends o.legible.few sound (join_extends m (stored t a) (stored t b)) x)
