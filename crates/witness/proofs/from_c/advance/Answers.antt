-- The struct is the record in its own column.
use Rattle.std.proofs.Common.{refl, sym, rules}
use Rattle.editor.proofs.Column.{read_back}
use Rattle.witness.proofs.from_c.advance.Goals as goal

pub returns : goal.returns
returns c = (c.args.run.now, c.sts_advance.new.run, sym (read_back c.args.run.now (search rules) (search rules)), refl, c.sts_advance.ensures)
