-- `legal::fields_legal` meets its contract: the tests are the definition's. Assumes nothing.
use Rattle.std.proofs.Common.{arith}
use Rattle.std.proofs.lemmas.Grind.{common_steps}
use Rattle.format.specs.Legal.{fields_legal}
use Rattle.cell.specs.Value.{circuit_of}
use Rattle.cell.proofs.Firsts.{length_firsts}
use Rattle.cell.proofs.legal.fields_legal.Goals as goal

pub returns-then-transistors_legal : goal.returns-then-transistors_legal
unfolding fields_legal circuit_of
returns-then-transistors_legal c = grind (arith, common_steps, length_firsts)

pub returns-else-transistors_legal : goal.returns-else-transistors_legal
unfolding fields_legal circuit_of
returns-else-transistors_legal c = grind (arith, common_steps, length_firsts)
