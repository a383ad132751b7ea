-- `inner::is_input` meets its contract. Assumes nothing.
use borrow.Author.Tests.{lt-leb}
use mathlib.Core.Path.{sym}
use Rattle.net.proofs.Laying.{input_at}
use Rattle.net.proofs.inner.is_input.Goals as goal

pub returns-then-n-ge2 : goal.returns-then-n-ge2
returns-then-n-ge2 c =
    sym (input_at c.args.net.now c.args.n c.if-n-ge2.true c.requires.2)

pub returns-else-n-ge2 : goal.returns-else-n-ge2
returns-else-n-ge2 c = simp (lt-leb 2 c.args.n c.if-n-ge2.false)
