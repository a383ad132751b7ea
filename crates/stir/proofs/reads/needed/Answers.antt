use native.Mathlib.Omega.{arith}
use borrow.Author.Rules.{rules}
use Rattle.prepare.proofs.Reading.{laid_gate, laid_first, laid_second}
use Rattle.stir.proofs.Needing.{needing_first, needing_next, needing_done}
use Rattle.stir.proofs.reads.needed.Goals as goal

pub loop-i-init : goal.loop-i-init
loop-i-init c = needing_first _ _ (search rules)

pub at_marked-reads-requires : goal.at_marked-reads-requires
at_marked-reads-requires c = (c.requires, c.loop-i-test.true)

pub loop-i-preserved : goal.loop-i-preserved
loop-i-preserved c =
    let l = c.loop-i in
    let below = c.loop-i-test.true in
    let cell = c.requires in
    needing_next l.invariant c.at_marked-reads.ensures (laid_gate _ cell _ below) (laid_first _ cell _ below) (laid_second _ cell _ below) c.marked.ensures c.marked-in-loop-i.ensures c.marked-in-loop-i-2.ensures

pub returns : goal.returns
returns c = needing_done c.loop-i.invariant (omega (arith, c.loop-i-test.false))
