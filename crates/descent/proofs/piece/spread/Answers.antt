use native.Mathlib.Omega.{arith}
use Rattle.descent.proofs.Search.{searched_trans, crossed_more}
use Rattle.descent.proofs.Reaching.{arm_end}
use Rattle.descent.proofs.piece.spread.Goals as goal

pub cross-total-requires : goal.cross-total-requires
cross-total-requires c =
    let arm = c.arm_at-i in
    let l = c.loop-k in
    let small = c.requires.found.small _ c.requires.x_value in
    let inside = l.invariant.0.grew.inside _ c.requires.x_value in
    let end = arm_end c.requires.net c.args.roots.now c.args.x l.k arm.result small (omega (arith, c.degree_of-degree.ensures, c.loop-k-test.true)) arm.ensures.0 arm.ensures.1 in
    record { net = c.requires.net; i_bound = (arm.ensures.1, end, inside); found = l.invariant.0.found }

pub loop-k-preserved : goal.loop-k-preserved
loop-k-preserved c = (searched_trans c.loop-k.invariant.0 c.cross-total.ensures.searched, crossed_more c.cross-total.ensures.searched c.args.roots.now c.args.x c.loop-k.k c.arm_at-i.result c.loop-k.invariant.1 c.arm_at-i.ensures.0 c.cross-total.ensures.crossed.0, λ n w. c.cross-total.ensures.crossed.1 n (c.loop-k.invariant.2 n w))
