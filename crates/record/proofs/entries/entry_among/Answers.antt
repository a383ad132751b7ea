-- `entries::entry_among` meets its contract: past the used count there is no entry. Assumes nothing.
use borrow.Author.Tests.{le-ltb}
use mathlib.Core.Path.{◌∙◌}
use Rattle.record.proofs.Entry.{entry_in, entry_out}
use Rattle.record.proofs.entries.entry_among.Goals as goal

pub returns-then-e-used : goal.returns-then-e-used
returns-then-e-used c = entry_in c.requires c.args.e c.if-e-used.true c.args.after c.args.most c.args.other c.all_among.ensures

pub returns-else-e-used : goal.returns-else-e-used
returns-else-e-used c = le-ltb _ _ c.if-e-used.false ∙ entry_out c.requires c.args.e c.args.after c.args.most c.args.other c.if-e-used.false
