-- `legal::transistor_legal` meets its contract: the tests are the definition's. Assumes nothing.
use Rattle.std.proofs.Common.{arith}
use Rattle.std.proofs.lemmas.Grind.{common_steps}
use Rattle.format.specs.Legal.{transistor_legal}
use Rattle.cell.proofs.legal.transistor_legal.Goals as goal

pub returns-then-t : goal.returns-then-t
unfolding transistor_legal
returns-then-t c = grind (arith, common_steps)

pub returns-else-t : goal.returns-else-t
unfolding transistor_legal
returns-else-t c = grind (arith, common_steps)
