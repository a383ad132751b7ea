use native.Mathlib.Omega.{arith}
use Rattle.text.proofs.Lines.{lined_none, lined_room, lined_more, lined_done}
use Rattle.vcd.proofs.put_vars.Goals as goal

pub loop-i-init : goal.loop-i-init
loop-i-init c = lined_none _ _ _ _

pub put_var-end-requires : goal.put_var-end-requires
put_var-end-requires c = (omega (arith, c.requires.0, c.loop-i-test.true), lined_room c.loop-i.invariant c.loop-i-test.true c.requires.1)

pub loop-i-preserved : goal.loop-i-preserved
loop-i-preserved c = lined_more c.loop-i.invariant c.loop-i-test.true c.requires.1 c.put_var-end.ensures

pub returns : goal.returns
returns c = lined_done c.loop-i.invariant c.loop-i-test.false
