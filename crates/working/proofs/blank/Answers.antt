-- `blank` meets its contract: the index is cleared from its first place on. Assumes nothing.
use Rattle.working.proofs.Fresh.{empty_zeros}
use Rattle.working.proofs.blank.Goals as goal

pub returns : goal.returns
returns c = empty_zeros c.args.index.now c.clear_column.ensures
