-- `legal::limits_kept` meets its contract: the tests are the definition's. Assumes nothing.
use Rattle.std.proofs.Common.{arith}
use Rattle.std.proofs.lemmas.Grind.{common_steps}
use Rattle.format.specs.Legal.{limits_kept}
use Rattle.cell.proofs.legal.limits_kept.Goals as goal

pub returns-then-h-le-MOST_LETTERS : goal.returns-then-h-le-MOST_LETTERS
unfolding limits_kept
returns-then-h-le-MOST_LETTERS c = grind (arith, common_steps)

pub returns-else-h-le-MOST_LETTERS : goal.returns-else-h-le-MOST_LETTERS
unfolding limits_kept
returns-else-h-le-MOST_LETTERS c = grind (arith, common_steps)
