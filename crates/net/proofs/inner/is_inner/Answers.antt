-- `inner::is_inner` meets its contract. Assumes nothing.
use borrow.Author.Tests.{lt-leb, lt-ltb, le-ltb}
use mathlib.Core.Path.{ap}
use mathlib.Core.Bool.{not}
use Rattle.net.proofs.inner.is_inner.Goals as goal

pub returns-then-n-ge2 : goal.returns-then-n-ge2
returns-then-n-ge2 c = simp (le-ltb c.args.n 2 c.if-n-ge2.true) (ap not c.is_input.ensures)

pub returns-else-n-ge2 : goal.returns-else-n-ge2
returns-else-n-ge2 c = simp (lt-leb 2 c.args.n c.if-n-ge2.false, lt-ltb c.args.n 2 c.if-n-ge2.false)
