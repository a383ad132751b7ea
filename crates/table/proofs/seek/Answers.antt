use mathlib.Core.Path.{sym, ◌∙◌}
use Rattle.diagram.proofs.Sound.{same_differ}
use Rattle.table.proofs.Search.{seeking_start, seeking_next, seeking_less}
use Rattle.table.proofs.seek.Goals as goal

pub loop-e-init : goal.loop-e-init
loop-e-init c = seeking_start c.requires.index c.bucket-head.result c.bucket-head.ensures.0 c.bucket-head.ensures.1

pub loop-e-smaller : goal.loop-e-smaller
loop-e-smaller c = seeking_less c.requires.index _ c.loop-e-test.true c.loop-e.invariant

pub loop-e-preserved : goal.loop-e-preserved
loop-e-preserved c = seeking_next c.requires.index _ c.loop-e-test.true (same_differ _ _ (sym c.is_entry.ensures ∙ c.if-is_entry.false)) c.loop-e.invariant
