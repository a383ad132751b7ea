-- The recursion on two operands, step by step.
use mathlib.Core.Path.{◌≡◌, ◌∙◌, subst}
use mathlib.Core.Logic.{⊎_elim}
use mathlib.Core.List.{List}
use Prim.Native.Nat.{ℕ, ◌+◌, ◌-◌, ◌<◌, ◌≤◌, min}
use native.Mathlib.Omega.{arith}
use lib.ListN.{length, get_or}
use Rattle.lists.proofs.Cases.{lt_or_ge}
use Rattle.diagram.specs.declared.Operation.{Operation}
use Rattle.diagram.specs.Table.{Table, terminal_letter, terminal, branch, entry_at}
use Rattle.diagram.specs.Store.{add, store}
use Rattle.diagram.specs.Operation.{apply, applied}
use Rattle.diagram.specs.Held.{entries, held}
use Rattle.diagram.proofs.Sound.{Sound}
use Rattle.diagram.proofs.Shannon.{apply_terminals, apply_parts, apply_extends}
use Rattle.table.specs.declared.Put.{Put}
use Rattle.table.specs.Holds.{Outcome}
use Rattle.functions.specs.Open.{Open, Operand, PartsOf}
use Rattle.functions.proofs.Carry.{legible_sound, legible_long, letter_at_lem, low_at, parts_table, branch_letter, past_letter, part_operands}
use Rattle.functions.proofs.Halving.{Halves}

-- the terminal of a number that is known otherwise
pub leaf_done : {t : Table} {l w h ix : List ℕ} {r : Put} (v x : ℕ) → v ≡ x → Outcome t (add (branch terminal_letter v 0) t) l w h ix r → Outcome t (add (terminal x) t) l w h ix r
leaf_done {t} {l} {w} {h} {ix} {r} v x e o = subst (λ (y : ℕ). Outcome t (add (terminal y) t) l w h ix r) e o

-- operands a and b of letters among the last `left`, and m, the least of their letters
module _ {letters : ℕ} {l w h ix : List ℕ} {used : ℕ} (open' : Open letters l w h ix used) (o : Operation) {a b left m : ℕ}
    (oa : Operand letters (held l w h used) used left a) (ob : Operand letters (held l w h used) used left b)
    (least : m ≡ min (get_or l a 0) (get_or l b 0)) where
  abbrev t : Table
  t = held l w h used

  sound : Sound letters t
  sound = legible_sound open'.legible

  long : length t ≡ used
  long = legible_long open'.legible

  letter_a : (entry_at t a).letter ≡ get_or l a 0
  letter_a = letter_at_lem open'.legible a oa.within

  letter_b : (entry_at t b).letter ≡ get_or l b 0
  letter_b = letter_at_lem open'.legible b ob.within

  -- two terminals
  pub terminals_done : {l1 w1 h1 ix1 : List ℕ} {r : Put} → m ≡ terminal_letter
      → Outcome (held l w h used) (add (terminal (apply o (get_or w a 0) (get_or w b 0))) (held l w h used)) l1 w1 h1 ix1 r
      → Outcome (held l w h used) (store letters 0 (applied letters (held l w h used) o a b) (held l w h used)) l1 w1 h1 ix1 r
  terminals_done {l1} {w1} {h1} {ix1} {r} leaf done =
      rw (apply_terminals t open'.legible.few sound o a b (letter_a ∙ past_letter open'.legible a oa.within (omega arith)) (letter_b ∙ past_letter open'.legible b ob.within (omega arith)), low_at open'.legible a oa.within, low_at open'.legible b ob.within) done

  module _ (node : m ≡ terminal_letter → ⊥) where
    -- the letter is one of the letters
    pub node_small : m < letters
    node_small =
        ⊎_elim
        (λ (g : get_or l a 0 < get_or l b 0). let e : m ≡ get_or l a 0 = omega arith in rw e (branch_letter open'.legible a oa.within (λ q. node (e ∙ q))))
        (λ (g : get_or l b 0 ≤ get_or l a 0). let e : m ≡ get_or l b 0 = omega arith in rw e (branch_letter open'.legible b ob.within (λ q. node (e ∙ q))))
        (lt_or_ge (get_or l a 0) (get_or l b 0))

    -- and those from it on are among the last `left`
    pub node_room : letters ≤ m + left
    node_room = omega (arith, oa.from, ob.from, letter_a, letter_b)

    module _ {a0 a1 b0 b1 : ℕ} (qa : PartsOf (entries l w h) m a a0 a1) (qb : PartsOf (entries l w h) m b b0 b1) where
      -- the parts are operands with one letter less
      pub parts_a : Operand letters (held l w h used) used (left - 1) a0 × Operand letters (held l w h used) used (left - 1) a1
      parts_a = part_operands open'.legible node_small node_room (omega arith) oa qa

      pub parts_b : Operand letters (held l w h used) used (left - 1) b0 × Operand letters (held l w h used) used (left - 1) b1
      parts_b = part_operands open'.legible node_small node_room (omega arith) ob qb

      -- and the operation on them makes the operation
      pub apply_halves : Halves letters (held l w h used) m (applied letters (held l w h used) o a b) (applied letters (held l w h used) o a0 b0)
          (λ u. applied letters u o a1 b1)
      apply_halves =
          let pa : PartsOf t m a a0 a1 = parts_table open'.legible oa.within qa in
          let pb : PartsOf t m b b0 b1 = parts_table open'.legible ob.within qb in
          record {
            halved =
                rw (pa.low_is, pa.high_is, pb.low_is, pb.high_is)
                (apply_parts t open'.legible.few sound o m a b node_small (omega (arith, oa.within, long)) (omega (arith, ob.within, long)) (omega (arith, letter_a)) (omega (arith, letter_b)));
            stable = λ u v x. apply_extends t open'.legible.few sound o a1 b1 v x (omega (arith, parts_a.1.within, long)) (omega (arith, parts_b.1.within, long));
          }
