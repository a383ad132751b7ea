-- `ask_cell` meets its contract. Assumes nothing.
use Rattle.run.proofs.Cells.{checked_replied, checked_by}
use Rattle.run.proofs.ask.ask_cell.Goals as goal

pub ask_replied-requires : goal.ask_replied-requires
ask_replied-requires c = checked_replied c.args.cell c.check.result c.and-checked.result c.check.ensures c.and-checked.ensures

pub returns : goal.returns
returns c = rw (checked_by c.args.cell c.check.result c.and-checked.result c.check.ensures c.and-checked.ensures) at c.ask_replied.ensures
