-- `join` meets its contract: equal parts are there, different ones make a branch. Assumes nothing.
use Rattle.functions.proofs.Carry.{join_there, join_add}
use Rattle.functions.proofs.step.join.Goals as goal

pub returns-then-a-b : goal.returns-then-a-b
returns-then-a-b c = join_there c.args.m c.args.a c.args.b c.requires c.if-a-b.true

pub returns : goal.returns
returns c = join_add c.args.m c.args.a c.args.b c.if-a-b.false c.add.ensures
