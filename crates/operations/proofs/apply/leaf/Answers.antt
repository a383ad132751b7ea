-- `leaf` meets its contract: the number of the terminal is the operation's. Assumes nothing.
use Rattle.functions.proofs.Applying.{leaf_done}
use Rattle.operations.proofs.apply.leaf.Goals as goal

pub returns : goal.returns
returns c = leaf_done _ _ c.apply_numbers-v.ensures c.add.ensures
