-- `ask_file` meets its contract. Assumes nothing.
use Rattle.cell.proofs.Answers.{reading_answers}
use Rattle.run.proofs.Cells.{read_replied}
use Rattle.run.proofs.ask.ask_file.Goals as goal

pub ask_replied-requires : goal.ask_replied-requires
ask_replied-requires c = read_replied c.args.file.now c.read-read.result c.read-read.ensures

pub returns : goal.returns
returns c = rw (reading_answers c.args.file.now c.read-read.result c.read-read.ensures) at c.ask_replied.ensures
