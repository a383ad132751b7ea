-- A row that is found among the earlier ones has a twin; one that is not is linked at the head of its bucket.
use Rattle.table.proofs.Entering.{entered_twin, entered_new}
use Rattle.table.proofs.enter.Goals as goal

pub returns-then-found-at : goal.returns-then-found-at
returns-then-found-at c = entered_twin c.args.letter.now c.args.low.now c.args.high.now _ _ c.requires.0 _ c.seek-found.ensures _ c.if-found-at.true

pub returns : goal.returns
returns c = rw c.link.ensures (entered_new c.args.letter.now c.args.low.now c.args.high.now _ _ c.requires.0 _ c.seek-found.ensures c.requires.1 c.if-found-at.false _ c.bucket-head.ensures.0 c.bucket-head.ensures.1)
