-- `asked` meets its contract. Assumes nothing.
use borrow.Author.Tests.{le-leb, lt-leb}
use Rattle.diagram.specs.Pattern.{most_letters}
use Rattle.calls.proofs.Answers.{passed_legible}
use Rattle.calls.proofs.opening.asked.Goals as goal

pub returns-then-k-gt12 : goal.returns-then-k-gt12
returns-then-k-gt12 c = rw (lt-leb c.args.k most_letters c.if-k-gt12.true)

pub make_asked-requires : goal.make_asked-requires
make_asked-requires c = passed_legible c.requires c.if-k-gt12.false

pub ask_asked-requires : goal.ask_asked-requires
ask_asked-requires c = passed_legible c.requires c.if-k-gt12.false

pub returns-in-Store : goal.returns-in-Store
returns-in-Store c = rw (le-leb c.args.k most_letters c.if-k-gt12.false, c.in-Store.is) c.make_asked.ensures

pub returns-in-Tell : goal.returns-in-Tell
returns-in-Tell c = rw (le-leb c.args.k most_letters c.if-k-gt12.false, c.in-Tell.is) c.ask_asked.ensures
