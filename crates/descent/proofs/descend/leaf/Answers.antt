-- `leaf`: the numbers of terminals are their low parts.
use Rattle.functions.proofs.Applying.{leaf_done}
use Rattle.descent.proofs.Going.{leaf_settleable, leaf_number}
use Rattle.descent.proofs.descend.leaf.Goals as goal

pub settled-v-requires : goal.settled-v-requires
settled-v-requires c = (leaf_settleable c.requires.leaf_of.0 c.live_numbers-numbers.ensures, c.reached-moves.ensures)

pub returns : goal.returns
returns c = leaf_done _ _ (leaf_number _ _ c.requires.leaf_of.0 c.live_numbers-numbers.ensures c.settled-v.ensures) c.add.ensures
