-- `leaf` meets its contract. Assumes nothing.
use Rattle.functions.proofs.Applying.{leaf_done}
use Rattle.values.proofs.flip.leaf.Goals as goal

pub returns : goal.returns
returns c = leaf_done _ _ c.flip-v.ensures c.add.ensures
