use native.Mathlib.Omega.{arith}
use borrow.Author.Tests.{not-true, not-false}
use Rattle.record.proofs.Loops.{loop_starts, loop_fails, loop_next, loop_ends}
use Rattle.record.proofs.places.inputs_rest.Goals as goal

pub loop-i-init : goal.loop-i-init
loop-i-init c = loop_starts _

pub returns-then-not-rests : goal.returns-then-not-rests
returns-then-not-rests c = loop_fails _ _ c.loop-i.i (omega arith) c.rests.ensures (not-true _ c.if-not-rests.true-raw)

pub loop-i-preserved : goal.loop-i-preserved
loop-i-preserved c = loop_next _ _ c.loop-i.invariant c.rests.ensures (not-false _ c.if-not-rests.false-raw)

pub returns : goal.returns
returns c = loop_ends _ _ c.loop-i.i (omega arith) c.loop-i.invariant
