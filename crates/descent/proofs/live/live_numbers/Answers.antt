use Rattle.descent.proofs.Listed.{live_zeros, at_none, at_next}
use Rattle.descent.proofs.live.live_numbers.Goals as goal

pub loop-place-init : goal.loop-place-init
loop-place-init c = at_none _ (live_zeros c.requires.live.places)

pub loop-place-preserved : goal.loop-place-preserved
loop-place-preserved c = at_next c.loop-place.invariant c.requires.live.places c.loop-place-test.true _ c.entry_of.ensures
