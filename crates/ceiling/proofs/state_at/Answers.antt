use mathlib.Core.Path.{◌≡◌}
use Prim.Native.Nat.{◌+◌, ◌<◌, ◌≤◌}
use native.Mathlib.Omega.{arith}
use Rattle.net.specs.Net.{at}
use Rattle.plain.proofs.Fill.{values_none, changes_none, filled_more}
use Rattle.ceiling.proofs.Trying.{held_shown, held_bits, held_none_exceeded}
use Rattle.ceiling.proofs.state_at.Goals as goal

pub loop-n-init : goal.loop-n-init
loop-n-init c = (values_none _, changes_none _)

pub loop-n-preserved : goal.loop-n-preserved
loop-n-preserved c =
    let l = c.loop-n in
    let least : 2 ≤ l.n = l.auto.n in
    let small : l.n < 26 = omega (arith, c.loop-n-test.true, c.requires.0.within.nodes) in (
      filled_more l.invariant.0 c.wire_at-wire.result.value least small c.wire_at-wire.ensures.0,
      filled_more l.invariant.1 c.wire_at-wire.result.change least small c.wire_at-wire.ensures.1,
    )

pub returns : goal.returns
returns c =
    let l = c.loop-n in
    let net = c.args.net.now in
    let done : l.n ≡ 2 + at net 0 = omega (arith, c.loop-n-test.false, l.auto.n-end) in
    let v = rw done at l.invariant.0 in
    let d = rw done at l.invariant.1 in (
      held_shown net c.args.letter.now c.args.low.now c.args.high.now c.args.r c.requires.0 c.requires.1 c.requires.2 c.args.p c.requires.3 v d,
      held_bits net c.args.letter.now c.args.low.now c.args.high.now c.args.r c.requires.0 c.requires.1 c.requires.2 c.args.p c.requires.3 v d,
      held_none_exceeded net c.args.letter.now c.args.low.now c.args.high.now c.args.r c.requires.0 c.requires.1 c.requires.2 c.args.p c.requires.3 v d,
    )
