-- `places::after_now` meets its contract. Assumes nothing.
use borrow.Author.Tests.{lt-ltb, le-ltb}
use Rattle.record.proofs.places.after_now.Goals as goal

pub returns-then-present-then : goal.returns-then-present-then
returns-then-present-then c = rw (lt-ltb _ _ c.if-present-then.true)

pub returns-else-present-then : goal.returns-else-present-then
returns-else-present-then c = rw (le-ltb _ _ c.if-present-then.false)
