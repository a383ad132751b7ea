-- `settled`: the pending change, or the next one by the leaf.
use borrow.Author.Tests.{not-true, not-false}
use Rattle.plain.proofs.settle.settled.Goals as goal

pub returns-then-not-moves : goal.returns-then-not-moves
returns-then-not-moves c = rw (not-true c.args.moves c.if-not-moves.true-raw) c.pending_after.ensures

pub moved-requires : goal.moved-requires
moved-requires c = (c.requires.1 (not-false _ c.if-not-moves.false-raw), c.requires.0)

pub returns : goal.returns
returns c = rw (not-false c.args.moves c.if-not-moves.false-raw) c.moved.ensures
