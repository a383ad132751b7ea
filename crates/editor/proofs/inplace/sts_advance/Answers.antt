-- `sts_advance` stores the record of an answer back. Assumes nothing.
use Rattle.editor.proofs.Back.{advance_done, advance_refused}
use Rattle.editor.proofs.inplace.sts_advance.Goals as goal

pub returns-in-Ok : goal.returns-in-Ok
returns-in-Ok c = advance_done (rw c.in-Ok.is at c.on_file-went.ensures)

pub returns-in-Err : goal.returns-in-Err
returns-in-Err c = advance_refused (rw c.in-Err.is at c.on_file-went.ensures) c.from.ensures
