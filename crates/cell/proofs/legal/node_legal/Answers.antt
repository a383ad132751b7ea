-- `legal::node_legal` meets its contract: the tests are the definition's. Assumes nothing.
use Rattle.std.proofs.Common.{arith}
use Rattle.std.proofs.lemmas.Grind.{common_steps}
use Rattle.format.specs.Legal.{node_legal}
use Rattle.cell.proofs.legal.node_legal.Goals as goal

pub returns-then-n-eq-INNER : goal.returns-then-n-eq-INNER
unfolding node_legal
returns-then-n-eq-INNER c = grind (arith, common_steps)

pub returns-then-n-eq-INPUT : goal.returns-then-n-eq-INPUT
unfolding node_legal
returns-then-n-eq-INPUT c = grind (arith, common_steps)

pub returns-else-n-eq-INPUT : goal.returns-else-n-eq-INPUT
unfolding node_legal
returns-else-n-eq-INPUT c = grind (arith, common_steps)

pub returns-else-source_legal : goal.returns-else-source_legal
unfolding node_legal
returns-else-source_legal c = grind (arith, common_steps)
