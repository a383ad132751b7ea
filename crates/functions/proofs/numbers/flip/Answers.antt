-- `flip` turns the bit where the test holds.
use borrow.Author.Tests.{eq-eqb, ne_eqb}
use native.Mathlib.Omega.{arith}
use Rattle.functions.proofs.numbers.flip.Goals as goal

pub returns-then-other-n : goal.returns-then-other-n
returns-then-other-n c = rw (ne_eqb _ _ c.if-other-n.true)

pub returns-then-bit-eq0 : goal.returns-then-bit-eq0
returns-then-bit-eq0 c = rw (eq-eqb _ _ c.if-other-n.false) (omega arith)

pub returns : goal.returns
returns c = rw (eq-eqb _ _ c.if-other-n.false) (omega arith)
