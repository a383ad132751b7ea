-- `reached`: the node itself, or one of its piece.
use borrow.Author.Tests.{eq-eqb}
use Rattle.descent.proofs.Seeds.{own_reached}
use Rattle.descent.proofs.settle.reached.Goals as goal

pub returns-then-numbers-n-eq1 : goal.returns-then-numbers-n-eq1
returns-then-numbers-n-eq1 c = own_reached c.requires c.args.numbers.now (eq-eqb _ _ c.if-numbers-n-eq1.true)
