-- `ask_asked` meets its contract. Assumes nothing.
use borrow.Author.Tests.{lt-ltb, le-ltb}
use Rattle.calls.proofs.opening.ask_asked.Goals as goal

pub is_pattern-requires : goal.is_pattern-requires
is_pattern-requires c = c.requires.few

pub two_valued-requires : goal.two_valued-requires
two_valued-requires c = (c.requires, c.if-e-used-2.true)

pub returns-then-e-used : goal.returns-then-e-used
returns-then-e-used c = rw (c.in-Number.is, lt-ltb _ _ c.if-e-used.true) c.is_pattern.ensures

pub returns-else-e-used : goal.returns-else-e-used
returns-else-e-used c = rw (c.in-Number.is, le-ltb _ _ c.if-e-used.false)

pub returns-then-e-used-2 : goal.returns-then-e-used-2
returns-then-e-used-2 c = rw (c.in-Count.is, lt-ltb _ _ c.if-e-used-2.true) c.two_valued.ensures

pub returns-else-e-used-2 : goal.returns-else-e-used-2
returns-else-e-used-2 c = rw (c.in-Count.is, le-ltb _ _ c.if-e-used-2.false)
