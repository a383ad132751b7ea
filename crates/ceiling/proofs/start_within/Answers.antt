use mathlib.Core.Path.{◌≡◌, ◌∙◌, ap}
use mathlib.Core.Bool.{not}
use Prim.Native.Nat.{◌<◌}
use native.Mathlib.Omega.{arith}
use Rattle.diagram.specs.Pattern.{patterns}
use Rattle.net.specs.Net.{letters_place, at}
use Rattle.record.proofs.Loops.{loop_starts, loop_fails, loop_next, loop_ends}
use Rattle.ceiling.proofs.Trying.{goes_err, start_all}
use Rattle.ceiling.proofs.start_within.Goals as goal

pub loop-p-init : goal.loop-p-init
loop-p-init c = loop_starts _

pub returns-then-is_err : goal.returns-then-is_err
returns-then-is_err c =
    let less : c.loop-p.p < patterns (at c.args.net.now letters_place) = omega (arith, c.loop-p-test.true, c.patterns-p-end.ensures) in
    loop_fails _ _ c.loop-p.p less (ap not (c.is_err.ensures.value ∙ goes_err _ _ _ c.start.result c.start.ensures)) (ap not c.if-is_err.true)
    ∙ start_all c.args.net.now

pub loop-p-preserved : goal.loop-p-preserved
loop-p-preserved c =
    loop_next _ _ c.loop-p.invariant (ap not (c.is_err.ensures.value ∙ goes_err _ _ _ c.start.result c.start.ensures)) (ap not c.if-is_err.false)

pub returns : goal.returns
returns c =
    let done : c.loop-p.p ≡ patterns (at c.args.net.now letters_place) = omega (arith, c.loop-p-test.false, c.loop-p.auto.p-end, c.patterns-p-end.ensures) in
    loop_ends _ _ c.loop-p.p done c.loop-p.invariant ∙ start_all c.args.net.now
