-- `read_record` reads the time, the used count and two parts of the column. Assumes nothing.
use Rattle.editor.proofs.Column.{record_read}
use Rattle.editor.proofs.runs.read_record.Goals as goal

pub returns : goal.returns
returns c = record_read c.args.«record».now _ _ c.entries-values.ensures c.entries-changes.ensures
