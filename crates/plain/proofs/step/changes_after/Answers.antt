use mathlib.Core.Path.{◌≡◌}
use Prim.Native.Nat.{◌+◌, ◌≤◌}
use native.Mathlib.Omega.{arith}
use Rattle.net.specs.Net.{at}
use Rattle.plain.specs.Ready.{Noded}
use Rattle.plain.proofs.Fill.{filled_more}
use Rattle.plain.proofs.step.changes_after.Goals as goal

pub loop-n-preserved : goal.loop-n-preserved
loop-n-preserved c =
    let l = c.loop-n in
    let least : 2 ≤ l.n = l.auto.n in
    let node : Noded c.args.net.now l.n = record { least = least; most = omega (arith, c.loop-n-test.true) } in
    λ s t h. filled_more (l.invariant s t h) c.change_by.result least (omega (arith, c.loop-n-test.true, c.requires.0.cell.within.nodes)) (c.change_by.ensures s t h.before h.after (h.pending l.n node))

pub returns : goal.returns
returns c =
    let l = c.loop-n in
    let done : l.n ≡ 2 + at c.args.net.now 0 = omega (arith, c.loop-n-test.false, l.auto.n-end) in
    λ s t h. rw done at (l.invariant s t h)
