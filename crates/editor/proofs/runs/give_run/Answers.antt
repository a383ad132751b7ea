-- `give_run` writes the record of an answer. Assumes nothing.
use mathlib.Core.Path.{refl}
use Rattle.editor.proofs.runs.give_run.Goals as goal

pub returns-in-Ok : goal.returns-in-Ok
returns-in-Ok c = rw c.in-Ok.is (refl, c.write_record.ensures)
