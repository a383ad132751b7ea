-- `entries_with` meets its contract: both sides are copied in, and the change stands behind them. Assumes nothing.
use borrow.Author.Rules.{rules}
use Rattle.marked.proofs.Placed.{placed}
use Rattle.changes.proofs.entries.entries_with.Goals as goal

pub returns : goal.returns
returns c = placed (search rules) (search rules) c.args.change c.copy_from_slice.ensures.after c.copy_from_slice-2.ensures.after
