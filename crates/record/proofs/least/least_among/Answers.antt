use mathlib.Core.Path.{ap, sym}
use native.Mathlib.Omega.{arith}
use lib.ListN.{get_or}
use lib.Seq.{get_or-take, length-take-le}
use Rattle.record.proofs.LeastBelow.{least_none, least_loop}
use Rattle.record.proofs.least.least_among.Goals as goal

pub loop-e-init : goal.loop-e-init
loop-e-init c = sym (least_none _)

pub loop-e-preserved : goal.loop-e-preserved
loop-e-preserved c =
    let long = length-take-le c.args.n c.args.entries (omega arith) in
    least_loop _ _ c.loop-e.invariant (ap (λ e. get_or c.args.least.now e 0) (get_or-take c.args.n c.args.entries c.loop-e.e-index 0 (omega arith))) c.least-all.ensures
