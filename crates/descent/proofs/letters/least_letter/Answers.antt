use mathlib.Core.Path.{subst, sym}
use Rattle.descent.proofs.Fill.{LeastTo, least_next}
use Rattle.descent.proofs.letters.least_letter.Goals as goal

pub loop-root-preserved : goal.loop-root-preserved
loop-root-preserved c = subst (LeastTo _ _ _) (sym c.min-m.ensures) (least_next _ _ _ _ _ c.loop-root.invariant c.entry_of.ensures)
