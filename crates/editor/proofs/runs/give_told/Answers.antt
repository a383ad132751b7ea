-- `give_told` writes two numbers over two. Assumes nothing.
use mathlib.Core.Path.{refl}
use Rattle.editor.proofs.Course.{two}
use Rattle.editor.proofs.runs.give_told.Goals as goal

pub returns-in-Ok : goal.returns-in-Ok
returns-in-Ok c = rw c.in-Ok.is (refl, two c.args.answer.now c.in-Ok.wire.value c.in-Ok.wire.change c.requires)
