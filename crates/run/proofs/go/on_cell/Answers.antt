-- `on_cell` meets its contract. Assumes nothing.
use Rattle.run.proofs.Cells.{checked_replied, checked_by}
use Rattle.run.proofs.go.on_cell.Goals as goal

pub on_replied-requires : goal.on_replied-requires
on_replied-requires c = checked_replied c.args.cell c.check.result c.and-checked.result c.check.ensures c.and-checked.ensures

pub returns : goal.returns
returns c = rw (checked_by c.args.cell c.check.result c.and-checked.result c.check.ensures c.and-checked.ensures) at c.on_replied.ensures
