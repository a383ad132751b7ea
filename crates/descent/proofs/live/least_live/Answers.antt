use mathlib.Core.Path.{sym, ◌∙◌, ap, subst}
use Prim.Native.Nat.{ℕ}
use native.Mathlib.Omega.{arith}
use lib.ListN.{get_or}
use Rattle.descent.proofs.Fill.{LeastTo, least_next}
use Rattle.descent.proofs.Listed.{root_taken, taken_count, least_all}
use Rattle.descent.proofs.live.least_live.Goals as goal

pub loop-place-preserved : goal.loop-place-preserved
loop-place-preserved c =
    let l = c.loop-place in
    (omega (arith, c.min-m.ensures, l.invariant.0), subst (LeastTo _ _ _) (sym c.min-m.ensures) (least_next _ _ _ _ _ l.invariant.1 (c.entry_of.ensures ∙ ap (λ (e : ℕ). get_or c.args.letter.now e 0) (sym (root_taken c.requires.live l.place-index c.loop-place-test.true)))))

pub returns : goal.returns
returns c = least_all c.requires.live c.requires.entries.1 c.loop-place.invariant.0 c.loop-place.invariant.1 (omega (arith, taken_count c.requires.live.places, c.loop-place-test.false)) (omega (arith, taken_count c.requires.live.places, c.loop-place.auto.place-index-end))
