-- The recursion on a selector and two operands, step by step.
use mathlib.Core.Path.{◌≡◌}
use mathlib.Core.List.{List}
use Prim.Native.Nat.{ℕ, ◌+◌, ◌-◌, ◌<◌, ◌≤◌, min}
use native.Mathlib.Omega.{arith}
use lib.ListN.{length, get_or}
use Rattle.diagram.specs.Table.{Table, terminal_letter, entry_at}
use Rattle.diagram.specs.Store.{store}
use Rattle.diagram.specs.Operation.{chosen}
use Rattle.diagram.specs.Held.{entries, held}
use Rattle.diagram.proofs.Sound.{Sound}
use Rattle.diagram.proofs.Number.{number_at_extends}
use Rattle.diagram.proofs.Shannon.{choose_parts, choose_extends}
use Rattle.functions.specs.Open.{Open, Operand, PartsOf}
use Rattle.functions.proofs.Carry.{legible_sound, legible_long, letter_at_lem, parts_table, branch_letter, part_operands}
use Rattle.functions.proofs.Known.{Stable}
use Rattle.functions.proofs.Halving.{Halves}

-- the choice is made alike in every extension
pub choose_stable : (letters : ℕ) → Stable letters (chosen letters)
choose_stable letters = record { same = λ few s x a b c p ha hb hc. rw (number_at_extends a p few s x ha, number_at_extends b p few s x hb, number_at_extends c p few s x hc) }

-- a selector s and operands a and b of letters among the last `left`
module _ {letters : ℕ} {l w h ix : List ℕ} {used : ℕ} (open' : Open letters l w h ix used) {s a b left : ℕ}
    (os : Operand letters (held l w h used) used left s) (oa : Operand letters (held l w h used) used left a)
    (ob : Operand letters (held l w h used) used left b) where
  abbrev t : Table
  t = held l w h used

  sound : Sound letters t
  sound = legible_sound open'.legible

  long : length t ≡ used
  long = legible_long open'.legible

  letter_s : (entry_at t s).letter ≡ get_or l s 0
  letter_s = letter_at_lem open'.legible s os.within

  letter_a : (entry_at t a).letter ≡ get_or l a 0
  letter_a = letter_at_lem open'.legible a oa.within

  letter_b : (entry_at t b).letter ≡ get_or l b 0
  letter_b = letter_at_lem open'.legible b ob.within

  -- the selector is no terminal, and m is the least letter
  module _ {m : ℕ} (node : get_or l s 0 ≡ terminal_letter → ⊥) (least : m ≡ min (get_or l s 0) (min (get_or l a 0) (get_or l b 0))) where
    pub node_small : m < letters
    node_small = omega (arith, branch_letter open'.legible s os.within node)

    pub node_room : letters ≤ m + left
    node_room = omega (arith, os.from, oa.from, ob.from, letter_s, letter_a, letter_b)

    module _ {s0 s1 a0 a1 b0 b1 : ℕ} (qs : PartsOf (entries l w h) m s s0 s1) (qa : PartsOf (entries l w h) m a a0 a1) (qb : PartsOf (entries l w h) m b b0 b1) where
      -- the parts are operands with one letter less
      pub parts_s : Operand letters (held l w h used) used (left - 1) s0 × Operand letters (held l w h used) used (left - 1) s1
      parts_s = part_operands open'.legible node_small node_room (omega arith) os qs

      pub parts_a : Operand letters (held l w h used) used (left - 1) a0 × Operand letters (held l w h used) used (left - 1) a1
      parts_a = part_operands open'.legible node_small node_room (omega arith) oa qa

      pub parts_b : Operand letters (held l w h used) used (left - 1) b0 × Operand letters (held l w h used) used (left - 1) b1
      parts_b = part_operands open'.legible node_small node_room (omega arith) ob qb

      -- and the choice among them makes the choice
      pub choose_halves : Halves letters (held l w h used) m (chosen letters (held l w h used) s a b) (chosen letters (held l w h used) s0 a0 b0)
          (λ u. chosen letters u s1 a1 b1)
      choose_halves =
          let ps : PartsOf t m s s0 s1 = parts_table open'.legible os.within qs in
          let pa : PartsOf t m a a0 a1 = parts_table open'.legible oa.within qa in
          let pb : PartsOf t m b b0 b1 = parts_table open'.legible ob.within qb in
          record {
            halved =
                rw (ps.low_is, ps.high_is, pa.low_is, pa.high_is, pb.low_is, pb.high_is)
                (choose_parts t open'.legible.few sound m s a b node_small (omega (arith, os.within, long)) (omega (arith, oa.within, long)) (omega (arith, ob.within, long))
                (omega (arith, letter_s)) (omega (arith, letter_a)) (omega (arith, letter_b)));
            stable = λ u v x.
                choose_extends t open'.legible.few sound s1 a1 b1 v x (omega (arith, parts_s.1.within, long)) (omega (arith, parts_a.1.within, long)) (omega (arith, parts_b.1.within, long));
          }
