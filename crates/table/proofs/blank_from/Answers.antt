use Rattle.table.proofs.Blanks.{gathered_next, gathered_all}
use Rattle.table.proofs.blank_from.Goals as goal

pub loop-i-preserved : goal.loop-i-preserved
loop-i-preserved c = gathered_next c.args.letter.now c.args.low.now c.args.high.now c.requires.1 c.requires.2 c.loop-i.invariant

pub returns : goal.returns
returns c = gathered_all c.args.letter.now c.args.low.now c.args.high.now c.requires.1 c.requires.2 c.loop-i.invariant c.loop-i-test.false
