-- `legal::entry_legal` meets its contract: the tests are the definition's. Assumes nothing.
use Rattle.std.proofs.Common.{arith}
use Rattle.std.proofs.lemmas.Grind.{common_steps}
use Rattle.format.specs.Legal.{entry_legal}
use Rattle.cell.specs.Value.{circuit_of}
use Rattle.cell.proofs.legal.entry_legal.Goals as goal

pub returns-then-source_legal : goal.returns-then-source_legal
unfolding entry_legal circuit_of
returns-then-source_legal c = grind (arith, common_steps)

pub returns-else-source_legal : goal.returns-else-source_legal
unfolding entry_legal circuit_of
returns-else-source_legal c = grind (arith, common_steps)
