use native.Mathlib.Omega.{arith}
use Rattle.text.proofs.Lines.{lined_none, lined_room, lined_more, lined_done}
use Rattle.vcd.specs.Lines.{change_lines}
use Rattle.vcd.proofs.put_changes.Goals as goal

pub loop-i-init : goal.loop-i-init
loop-i-init c = lined_none _ _ _ _

pub put_change-end-requires : goal.put_change-end-requires
unfolding change_lines
put_change-end-requires c =
    let l = c.loop-i in
    (omega (arith, c.requires.0.few, c.loop-i-test.true), c.requires.1.bits l.i c.loop-i-test.true, lined_room l.invariant c.loop-i-test.true c.requires.2)

pub loop-i-preserved : goal.loop-i-preserved
unfolding change_lines
loop-i-preserved c = lined_more c.loop-i.invariant c.loop-i-test.true c.requires.2 c.put_change-end.ensures

pub returns : goal.returns
unfolding change_lines
returns c = lined_done c.loop-i.invariant c.loop-i-test.false
