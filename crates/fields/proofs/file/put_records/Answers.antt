-- `put_records` meets its contract: the cell's line, then each kind of record.
use Rattle.fields.proofs.Shown.{records_shown}
use Rattle.fields.proofs.file.put_records.Goals as goal

pub returns : goal.returns
returns c = records_shown c.args.cell c.put_cell-first.ensures c.put_lines-second.ensures c.put_lines-third.ensures c.put_lines.ensures
