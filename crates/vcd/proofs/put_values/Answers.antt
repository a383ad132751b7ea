use native.Mathlib.Omega.{arith}
use Rattle.text.proofs.Lines.{lined_none, lined_room, lined_more, lined_done}
use Rattle.vcd.specs.Lines.{value_lines}
use Rattle.vcd.proofs.put_values.Goals as goal

pub loop-i-init : goal.loop-i-init
loop-i-init c = lined_none _ _ _ _

pub put_value-end-requires : goal.put_value-end-requires
unfolding value_lines
put_value-end-requires c =
    let l = c.loop-i in
    (omega (arith, c.requires.0.few, c.loop-i-test.true), c.requires.0.bits l.i c.loop-i-test.true, lined_room l.invariant c.loop-i-test.true c.requires.1)

pub loop-i-preserved : goal.loop-i-preserved
unfolding value_lines
loop-i-preserved c = lined_more c.loop-i.invariant c.loop-i-test.true c.requires.1 c.put_value-end.ensures

pub returns : goal.returns
unfolding value_lines
returns c = lined_done c.loop-i.invariant c.loop-i-test.false
