use native.Mathlib.Omega.{arith}
use Rattle.descent.proofs.Search.{found_few, spread_first, spread_next, spread_all}
use Rattle.descent.proofs.piece.piece.Goals as goal

pub loop-head-init : goal.loop-head-init
loop-head-init c = spread_first c.args.roots.now c.requires c.note-count.ensures.value c.note-count.ensures.marks_after c.note-count.ensures.found_after

pub bounds-found-at : goal.bounds-found-at
bounds-found-at c = omega (arith, found_few c.loop-head.invariant.found)

pub loop-head-smaller : goal.loop-head-smaller
loop-head-smaller c = omega (arith, found_few c.loop-head.invariant.found)

pub loop-head-preserved : goal.loop-head-preserved
loop-head-preserved c = spread_next c.loop-head.invariant c.loop-head-test.true c.spread-count.ensures.searched c.spread-count.ensures.all_crossed

pub returns : goal.returns
returns c = spread_all c.loop-head.invariant c.loop-head-test.false
