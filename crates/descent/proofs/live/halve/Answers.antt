use Rattle.descent.proofs.Listed.{at_next}
use Rattle.descent.proofs.live.halve.Goals as goal

pub loop-place-preserved : goal.loop-place-preserved
loop-place-preserved c = at_next c.loop-place.invariant c.requires.live.0.places c.loop-place-test.true _ c.part.ensures
