use native.Mathlib.Omega.{arith}
use Rattle.lines.proofs.Pieces.{lines_none, lines_more, lines_all}
use Rattle.lines.proofs.put_nodes.Goals as goal

pub loop-i-init : goal.loop-i-init
loop-i-init c = lines_none c.args.out.now c.args.at _

pub put_entry-end-requires : goal.put_entry-end-requires
put_entry-end-requires c =
    let l = c.loop-i in
    (c.requires.0.legible, c.requires.0.within l.i c.loop-i-test.true, omega (arith, c.requires.0.few, c.requires.1, l.auto.out, l.invariant.within, c.loop-i-test.true))

pub loop-i-preserved : goal.loop-i-preserved
loop-i-preserved c =
    let l = c.loop-i in
    let put = c.put_entry-end in
    lines_more l.i _ l.invariant put.ensures (omega (arith, c.requires.1))

pub returns : goal.returns
returns c =
    let l = c.loop-i in
    lines_all _ l.invariant (omega (arith, l.auto.i-end)) c.loop-i-test.false c.requires.0.few
