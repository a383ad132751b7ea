-- `put_byte` meets its contract.
use borrow.Author.Rules.{rules}
use Rattle.text.proofs.Written.{wrote_byte}
use Rattle.text.proofs.put_byte.Goals as goal

pub returns : goal.returns
returns c = wrote_byte c.args.out.now c.args.at c.args.byte (search rules)
