use Rattle.descent.proofs.Listed.{at_next, kept_next}
use Rattle.descent.proofs.live.keep.Goals as goal

pub loop-place-preserved : goal.loop-place-preserved
loop-place-preserved c = (at_next c.loop-place.invariant.0 c.requires.live.0.places c.loop-place-test.true _ c.kept_root-root.ensures, kept_next c.loop-place.invariant.1 c.requires.live.0.places c.loop-place-test.true _ c.kept_root-root.ensures c.note_place-total.ensures.value c.note_place-total.ensures.list_after)
