-- `on_file` meets its contract. Assumes nothing.
use Rattle.cell.proofs.Answers.{reading_answers}
use Rattle.run.proofs.Cells.{read_replied}
use Rattle.run.proofs.go.on_file.Goals as goal

pub on_replied-requires : goal.on_replied-requires
on_replied-requires c = read_replied c.args.file.now c.read-read.result c.read-read.ensures

pub returns : goal.returns
returns c = rw (reading_answers c.args.file.now c.read-read.result c.read-read.ensures) at c.on_replied.ensures
