-- `kept_roots` meets its contract: they are copied behind the values. Assumes nothing.
use Rattle.std.proofs.Common.{rules}
use Rattle.prepare.proofs.Placing.{kept_placed}
use Rattle.prepare.proofs.kept_roots.Goals as goal

pub returns : goal.returns
returns c = kept_placed (search rules) (search rules) c.copy_from_slice.ensures.after
