-- `reader::header_legal` meets its contract: the two tests are the definition's. Assumes nothing.
use Rattle.std.proofs.Common.{arith}
use Rattle.std.proofs.lemmas.Grind.{common_steps}
use Rattle.format.specs.File.{header_legal}
use Rattle.cell.proofs.reader.header_legal.Goals as goal

pub returns-then-limits_kept : goal.returns-then-limits_kept
unfolding header_legal
returns-then-limits_kept c = grind (arith, common_steps)

pub returns-else-limits_kept : goal.returns-else-limits_kept
unfolding header_legal
returns-else-limits_kept c = grind (arith, common_steps)
