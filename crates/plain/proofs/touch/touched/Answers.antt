use mathlib.Core.Bool.{true, false}
use mathlib.Core.Path.{ap}
use mathlib.Core.Path.{sym, ◌∙◌, ap₂}
use mathlib.Core.Bool.{◌&&◌}
use borrow.Author.Tests.{not-false}
use Rattle.net.specs.Net.{net_circuit}
use Rattle.net.proofs.Laying.{transistors_length, transistor_at_lem}
use Rattle.plain.proofs.Pieces.{touches, some_hit, some_next, some_ends, inner_reconsidered}
use native.Mathlib.Omega.{arith}
use Rattle.plain.proofs.touch.touched.Goals as goal

pub returns-then-of_piece-disturbed : goal.returns-then-of_piece-disturbed
returns-then-of_piece-disturbed c =
    let inner = sym c.is_inner.ensures ∙ not-false _ c.if-not-is_inner.false-raw in
    let net = c.args.net.now in
    let l = c.loop-i in
    let test = touches (net_circuit net) c.args.labels.now c.args.before.now c.args.after.now c.args.n in
    let below = c.loop-i-test.true in
    let hit = ap test (transistor_at_lem net l.i below) ∙ sym (ap₂ ◌&&◌ c.of_piece.ensures c.disturbed.ensures) ∙ c.if-of_piece-disturbed.true in
    inner_reconsidered net c.args.labels.now c.args.before.now c.args.after.now c.args.n c.requires.laid.0 c.requires.laid.1 c.requires.column.0 c.requires.column.1 true c.requires.column.2 inner (some_hit test (net_circuit net).transistors l.i (omega (arith, transistors_length net)) l.invariant hit)

pub loop-i-preserved : goal.loop-i-preserved
loop-i-preserved c =
    let net = c.args.net.now in
    let l = c.loop-i in
    let test = touches (net_circuit net) c.args.labels.now c.args.before.now c.args.after.now c.args.n in
    let below = c.loop-i-test.true in
    let miss = ap test (transistor_at_lem net l.i below) ∙ sym (ap₂ ◌&&◌ c.of_piece.ensures c.disturbed.ensures) ∙ c.if-of_piece-disturbed.false in
    some_next test (net_circuit net).transistors l.i (omega (arith, transistors_length net)) l.invariant miss

pub returns : goal.returns
returns c =
    let inner = sym c.is_inner.ensures ∙ not-false _ c.if-not-is_inner.false-raw in
    let net = c.args.net.now in
    let l = c.loop-i in
    let test = touches (net_circuit net) c.args.labels.now c.args.before.now c.args.after.now c.args.n in
    inner_reconsidered net c.args.labels.now c.args.before.now c.args.after.now c.args.n c.requires.laid.0 c.requires.laid.1 c.requires.column.0 c.requires.column.1 false c.requires.column.2 inner (some_ends test (net_circuit net).transistors l.i (omega (arith, transistors_length net)) l.invariant)
