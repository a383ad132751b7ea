use mathlib.Core.Path.{sym, ◌∙◌}
use Rattle.prepare.proofs.Reading.{laid_at, laid_few}
use Rattle.prepare.proofs.Keeping.{going_legal}
use Rattle.prepare.proofs.Opening.{resting_next}
use Rattle.prepare.proofs.open.keep_rest.Goals as goal

pub loop-i-preserved : goal.loop-i-preserved
loop-i-preserved c = resting_next c.requires.fact.0 c.requires.fact.1 c.requires.fact.4 c.requires.laid.within.nodes c.loop-i.invariant _ (laid_at _ c.requires.laid _ c.loop-i-test.true) (going_legal _ c.requires.laid _ c.loop-i-test.true) c.keep_open-p.ensures (sym c.stopped.ensures ∙ c.if-stopped.false) c.loop-i.auto.i (laid_few _ c.requires.laid _ c.loop-i-test.true) c.keep_open-p.auto.letter c.keep_open-p.auto.low c.keep_open-p.auto.high c.keep_open-p.auto.index
