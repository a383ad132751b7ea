-- `parts` meets its contract: a row that branches on the letter, or one that does not. Assumes nothing.
use Rattle.functions.proofs.Carry.{parts_own, parts_same}
use borrow.Author.Rules.{rules}
use Rattle.functions.proofs.step.parts.Goals as goal

pub returns-then-letter-i : goal.returns-then-letter-i
returns-then-letter-i c = parts_own c.args.letter.now c.args.low.now c.args.high.now c.args.m c.args.e (search rules) (search rules) c.if-letter-i.true

pub returns : goal.returns
returns c = parts_same c.args.letter.now c.args.low.now c.args.high.now c.args.m c.args.e (search rules) (search rules) c.if-letter-i.false
