use mathlib.Core.Path.{◌≡◌, ◌∙◌, ap}
use mathlib.Core.Bool.{not}
use Prim.Native.Nat.{◌<◌}
use native.Mathlib.Omega.{arith}
use Rattle.diagram.specs.Pattern.{patterns}
use Rattle.net.specs.Net.{letters_place, at, net_circuit}
use Rattle.record.specs.Record.{run_of}
use Rattle.record.specs.Moments.{moment_held}
use Rattle.record.proofs.Loops.{loop_starts, loop_fails, loop_next, loop_ends}
use Rattle.ceiling.proofs.Trying.{step_all}
use Rattle.ceiling.proofs.step_within.Goals as goal

pub loop-p-init : goal.loop-p-init
loop-p-init c = loop_starts _

pub step_exceeds-requires : goal.step_exceeds-requires
step_exceeds-requires c =
    let less : c.loop-p.p < patterns (at c.args.net.now letters_place) = omega (arith, c.loop-p-test.true, c.patterns-p-end.ensures) in
    (c.requires.0, c.requires.1, c.requires.2, less)

pub returns-then-step_exceeds : goal.returns-then-step_exceeds
returns-then-step_exceeds c =
    let less : c.loop-p.p < patterns (at c.args.net.now letters_place) = omega (arith, c.loop-p-test.true, c.patterns-p-end.ensures) in
    loop_fails _ _ c.loop-p.p less (ap not c.step_exceeds.ensures) (ap not c.if-step_exceeds.true)
    ∙ step_all c.args.net.now (moment_held c.args.letter.now c.args.low.now c.args.high.now (run_of (net_circuit c.args.net.now) c.args.r)) c.args.time c.requires.3

pub loop-p-preserved : goal.loop-p-preserved
loop-p-preserved c = loop_next _ _ c.loop-p.invariant (ap not c.step_exceeds.ensures) (ap not c.if-step_exceeds.false)

pub returns : goal.returns
returns c =
    let done : c.loop-p.p ≡ patterns (at c.args.net.now letters_place) = omega (arith, c.loop-p-test.false, c.loop-p.auto.p-end, c.patterns-p-end.ensures) in
    loop_ends _ _ c.loop-p.p done c.loop-p.invariant
    ∙ step_all c.args.net.now (moment_held c.args.letter.now c.args.low.now c.args.high.now (run_of (net_circuit c.args.net.now) c.args.r)) c.args.time c.requires.3
