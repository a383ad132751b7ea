-- `make_asked` meets its contract. Assumes nothing.
use borrow.Author.Tests.{lt-ltb, le-ltb}
use Rattle.calls.proofs.opening.make_asked.Goals as goal

pub two_valued-requires : goal.two_valued-requires
two_valued-requires c = (c.requires, c.if-s-used.true)

pub returns-then-a-used : goal.returns-then-a-used
returns-then-a-used c = rw (c.in-Apply.is, lt-ltb _ _ c.if-a-used.true)

pub returns-else-a-used : goal.returns-else-a-used
returns-else-a-used c = rw (c.in-Apply.is, le-ltb _ _ c.if-a-used.false)

pub returns-then-b-used : goal.returns-then-b-used
returns-then-b-used c = rw (c.in-Choose.is, lt-ltb _ _ c.if-s-used.true, lt-ltb _ _ c.if-a-used-2.true, lt-ltb _ _ c.if-b-used.true) c.two_valued.ensures

pub returns-else-b-used : goal.returns-else-b-used
returns-else-b-used c = rw (c.in-Choose.is, lt-ltb _ _ c.if-s-used.true, lt-ltb _ _ c.if-a-used-2.true, le-ltb _ _ c.if-b-used.false)

pub returns-else-a-used-2 : goal.returns-else-a-used-2
returns-else-a-used-2 c = rw (c.in-Choose.is, lt-ltb _ _ c.if-s-used.true, le-ltb _ _ c.if-a-used-2.false)

pub returns-else-s-used : goal.returns-else-s-used
returns-else-s-used c = rw (c.in-Choose.is, le-ltb _ _ c.if-s-used.false)

pub returns-then-j-k : goal.returns-then-j-k
returns-then-j-k c = rw (c.in-Fix.is, lt-ltb _ _ c.if-e-used.true, lt-ltb _ _ c.if-j-k.true)

pub returns-else-j-k : goal.returns-else-j-k
returns-else-j-k c = rw (c.in-Fix.is, lt-ltb _ _ c.if-e-used.true, le-ltb _ _ c.if-j-k.false)

pub returns-else-e-used : goal.returns-else-e-used
returns-else-e-used c = rw (c.in-Fix.is, le-ltb _ _ c.if-e-used.false)
