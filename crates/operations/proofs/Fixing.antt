-- The recursion that fixes a letter, step by step.
use mathlib.Core.Path.{◌≡◌, sym, ◌∙◌}
use mathlib.Core.List.{List}
use mathlib.Core.Bool.{cond}
use Prim.Native.Nat.{ℕ, ◌-◌, ◌<◌, ◌≤◌}
use native.Mathlib.Omega.{arith}
use lib.ListN.{length, get_or}
use lib.Dec.{eqb}
use Rattle.diagram.specs.Table.{Table, entry_at, part_of}
use Rattle.diagram.specs.Store.{store}
use Rattle.diagram.specs.Operation.{letter_fixed}
use Rattle.diagram.specs.Held.{entries, held}
use Rattle.diagram.proofs.Sound.{Sound}
use Rattle.diagram.proofs.Number.{part_low, part_high, part_of_lem}
use Rattle.diagram.proofs.Shannon.{fix_later, fix_own, fix_parts, fix_extends}
use Rattle.table.specs.declared.Stop.TheVariants.{Going}
use Rattle.table.specs.Holds.{Outcome}
use Rattle.table.proofs.Outcomes.{outcome_there}
use Rattle.functions.specs.Open.{Open, Operand, PartsOf}
use Rattle.functions.proofs.Carry.{legible_sound, legible_long, letter_at_lem, parts_table, part_operands}
use Rattle.functions.proofs.Halving.{Halves}

-- an entry of letters among the last `left`, and a letter to fix at a bit
module _ {letters : ℕ} {l w h ix : List ℕ} {used : ℕ} (open' : Open letters l w h ix used) {e j bit left : ℕ}
    (oe : Operand letters (held l w h used) used left e) (small : j < letters) (one : bit ≤ 1) where
  abbrev t : Table
  t = held l w h used

  sound : Sound letters t
  sound = legible_sound open'.legible

  within : e < length t
  within = omega (arith, oe.within, legible_long open'.legible)

  letter_e : (entry_at t e).letter ≡ get_or l e 0
  letter_e = letter_at_lem open'.legible e oe.within

  -- it does not depend on the letter
  pub later_done : j < get_or l e 0
      → Outcome (held l w h used) (store letters 0 (letter_fixed letters (held l w h used) e j bit) (held l w h used)) l w h ix
      (record { stop = Going; entry = e; used = used })
  later_done later = rw (fix_later t open'.legible.few sound e j bit within small one (omega (arith, letter_e))) (outcome_there open'.holds e)

  module _ {e0 e1 : ℕ} (q : PartsOf (entries l w h) (get_or l e 0) e e0 e1) where
    -- it is its own
    pub own_done : (part : ℕ) → get_or l e 0 ≡ j → part ≡ cond (eqb bit 1) e1 e0
        → Outcome (held l w h used) (store letters 0 (letter_fixed letters (held l w h used) e j bit) (held l w h used)) l w h ix
        (record { stop = Going; entry = part; used = used })
    own_done part own same =
        let p : PartsOf t (get_or l e 0) e e0 e1 = parts_table open'.legible oe.within q in
        let is : part_of t j bit e ≡ part =
        part_of_lem t j e bit (letter_e ∙ own)
        ∙ rw (← part_high t (get_or l e 0) e letter_e, ← part_low t (get_or l e 0) e letter_e, ← p.low_is, ← p.high_is) (sym same) in
        rw (fix_own t open'.legible.few sound e j bit within small one (letter_e ∙ own), is) (outcome_there open'.holds part)

    -- it comes later
    module _ (before : get_or l e 0 < j) where
      pub parts_e : Operand letters (held l w h used) used (left - 1) e0 × Operand letters (held l w h used) used (left - 1) e1
      parts_e = part_operands open'.legible (omega arith) (omega (arith, oe.from, letter_e)) (omega arith) oe q

      pub fix_room : 1 ≤ left
      fix_room = omega (arith, oe.from, letter_e)

      pub fix_halves : Halves letters (held l w h used) (get_or l e 0) (letter_fixed letters (held l w h used) e j bit)
          (letter_fixed letters (held l w h used) e0 j bit) (λ u. letter_fixed letters u e1 j bit)
      fix_halves =
          let p : PartsOf t (get_or l e 0) e e0 e1 = parts_table open'.legible oe.within q in
          record {
            halved = rw (p.low_is, p.high_is) (fix_parts t open'.legible.few sound (get_or l e 0) e j bit within small one before (omega (arith, letter_e)));
            stable = λ u v x. fix_extends t open'.legible.few sound e1 j bit v x (omega (arith, parts_e.1.within, legible_long open'.legible));
          }
