use native.Mathlib.Omega.{arith}
use Rattle.stir.proofs.Marking.{marking_first, marking_next, marking_done}
use Rattle.stir.proofs.marks.stirred_groups.Goals as goal

pub loop-i-init : goal.loop-i-init
loop-i-init c = marking_first c.args.net.now c.args.before.now c.args.after.now

pub group_of-g-requires : goal.group_of-g-requires
group_of-g-requires c = (c.requires.net, c.loop-i-test.true)

pub disturbed-requires : goal.disturbed-requires
disturbed-requires c = record { laid = c.requires.net; before_len = (c.requires.before_len.0, c.requires.before_len.1, c.loop-i-test.true) }

pub loop-i-preserved : goal.loop-i-preserved
loop-i-preserved c = marking_next c.loop-i.invariant c.group_of-g.ensures.0 c.group_of-g.ensures.1 c.disturbed.ensures c.marked.ensures

pub returns : goal.returns
returns c = marking_done c.loop-i.invariant (omega (arith, c.loop-i-test.false))
