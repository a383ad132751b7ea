-- `cell_with` meets its contract.
use borrow.Author.Rules.{rules}
use Rattle.cell.specs.Value.{firsts, circuit_of}
use Rattle.catalog.proofs.cell_with.Goals as goal

pub returns : goal.returns
unfolding circuit_of firsts
returns c = search rules
