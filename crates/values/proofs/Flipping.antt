-- A value flipped where its next change is T: where all of its next changes are later it stays, and else its parts' are flipped.
use mathlib.Core.Path.{◌≡◌}
use mathlib.Core.List.{List}
use mathlib.Core.Bool.{false}
use Prim.Native.Nat.{ℕ, suc, ◌-◌, ◌<◌, ◌≤◌, min}
use native.Mathlib.Omega.{arith}
use lib.ListN.{length, get_or}
use borrow.Author.Tests.{ne_eqb}
use Rattle.diagram.specs.declared.Operation.TheVariants.{Flip}
use Rattle.diagram.specs.Table.{Table, terminal_letter, number_at, part_of}
use Rattle.diagram.specs.Store.{store}
use Rattle.diagram.specs.Operation.{applied}
use Rattle.diagram.specs.Held.{entries, held}
use Rattle.diagram.proofs.Sound.{Sound}
use Rattle.diagram.proofs.Number.{part_such, number_at_extends}
use Rattle.diagram.proofs.Store.{store_stored}
use Rattle.table.specs.declared.Put.{Put}
use Rattle.table.specs.declared.Stop.TheVariants.{Going}
use Rattle.table.specs.Stop.{stopped}
use Rattle.table.specs.Holds.{Outcome}
use Rattle.table.proofs.Outcomes.{put, holds_table}
use Rattle.functions.specs.Open.{Open, Operand, PartsOf}
use Rattle.functions.proofs.Carry.{legible_sound, legible_long, parts_table}
use Rattle.functions.proofs.Applying.{node_small, node_room, parts_a, parts_b, apply_halves}
use Rattle.functions.proofs.Halving.{Halves, low_open, low_operand}
use Rattle.functions.proofs.Known.{Stable}
use Rattle.record.specs.Leasts.{Leasts}
use Rattle.record.proofs.Leasts.{leasts_less, leasts_extends, leasts_untaken}
use Rattle.values.proofs.Single.{own_outcome}

-- a value whose next change is after T at all patterns stays
pub flips_later : {k : ℕ} {l w h ix : List ℕ} {used : ℕ} (o : Open k l w h ix used) (time value change : ℕ) {least : List ℕ} → value < used
    → Leasts k (held l w h used) (suc change) least → time < get_or least change 0
    → Outcome (held l w h used) (store k 0 (applied k (held l w h used) (Flip time) value change) (held l w h used)) l w h ix (put Going value used)
flips_later {k} {l} {w} {h} {ix} {used} o time value change small g late =
    own_outcome o value (applied k (held l w h used) (Flip time) value change) small
    (λ p i. rw (ne_eqb (number_at k (held l w h used) change p) time (leasts_untaken g change time p late (omega arith) i)))

-- what flipping makes of entries is the same in every extension
pub flip_stable : {k : ℕ} (time : ℕ) → Stable k (λ t a b _. applied k t (Flip time) a b)
flip_stable time = record { same = λ few s x a b c p ha hb hc. rw (number_at_extends a p few s x ha, number_at_extends b p few s x hb) }

-- a part is no later entry
part_before : {k : ℕ} {t : Table} (m e bit : ℕ) → Sound k t → m < terminal_letter → e < length t → part_of t m bit e ≤ e
part_before {t = t} m e bit s small h = part_such t m e bit (λ (i : ℕ). i ≤ e) s small h (λ b q. (omega (arith, b.low_earlier), omega (arith, b.high_earlier))) (λ n. omega arith)

-- value a and next change b with letters among the last `left`; m, the least of their letters; and their parts there
module _ {k : ℕ} {l w h ix : List ℕ} {used : ℕ} (o : Open k l w h ix used) (time : ℕ) {a b left m : ℕ} {least : List ℕ}
    (oa : Operand k (held l w h used) used left a) (ob : Operand k (held l w h used) used left b)
    (g : Leasts k (held l w h used) (suc b) least) (first : m ≡ min (get_or l a 0) (get_or l b 0)) (node : m ≡ terminal_letter → ⊥) where
  abbrev t : Table
  t = held l w h used

  sound : Sound k t
  sound = legible_sound o.legible

  small : m < k
  small = node_small o (Flip time) oa ob first node

  -- a letter is left
  pub flip_left : 1 ≤ left
  flip_left = omega (arith, small, node_room o (Flip time) oa ob first node)

  module _ {a0 a1 b0 b1 : ℕ} (qa : PartsOf (entries l w h) m a a0 a1) (qb : PartsOf (entries l w h) m b b0 b1) where
    parts : PartsOf t m b b0 b1
    parts = parts_table o.legible ob.within qb

    before : (bit part : ℕ) → part ≡ part_of t m bit b → part ≤ b
    before bit part e = omega (arith, part_before m b bit sound (omega (arith, small, o.legible.few)) (omega (arith, ob.within, legible_long o.legible)))

    -- the flipped parts make the flipped value
    pub flip_halves : Halves k (held l w h used) m (applied k (held l w h used) (Flip time) a b) (applied k (held l w h used) (Flip time) a0 b0)
        (λ u. applied k u (Flip time) a1 b1)
    flip_halves = apply_halves o (Flip time) oa ob first node qa qb

    -- the low parts
    pub low_operands : Operand k (held l w h used) used (left - 1) a0 × Operand k (held l w h used) used (left - 1) b0
    low_operands = ((parts_a o (Flip time) oa ob first node qa qb).0, (parts_b o (Flip time) oa ob first node qa qb).0)

    pub low_leasts : Leasts k (held l w h used) (suc b0) least
    low_leasts = leasts_less g (omega (arith, before 0 b0 parts.low_is))

    -- the high parts, in what they left
    module _ {l1 w1 h1 ix1 : List ℕ} {p : Put} (o1 : Outcome (held l w h used) (store k 0 (applied k (held l w h used) (Flip time) a0 b0) (held l w h used)) l1 w1 h1 ix1 p)
        (room : stopped p.stop ≡ false) where
      pub high_open : Open k l1 w1 h1 ix1 p.used
      high_open = low_open o flip_halves o1 room

      pub high_operands : Operand k (held l1 w1 h1 p.used) p.used (left - 1) a1 × Operand k (held l1 w1 h1 p.used) p.used (left - 1) b1
      high_operands = (low_operand o flip_halves o1 room (parts_a o (Flip time) oa ob first node qa qb).1, low_operand o flip_halves o1 room (parts_b o (Flip time) oa ob first node qa qb).1)

      pub high_leasts : Leasts k (held l1 w1 h1 p.used) (suc b1) least
      high_leasts =
          let grown = store_stored k 0 (applied k t (Flip time) a0 b0) t o.legible.few sound (omega arith) in
          rw (holds_table (o1.holds room))
          (leasts_less (leasts_extends g o.legible.few sound grown.extends (omega (arith, ob.within, legible_long o.legible))) (omega (arith, before 1 b1 parts.high_is)))
