-- `flipped`, in both cases.
use borrow.Author.Tests.{eq-eqb, ne_eqb}
use Rattle.plain.proofs.arrive.flipped.Goals as goal

pub returns-then-change-time : goal.returns-then-change-time
returns-then-change-time c = rw (eq-eqb _ _ c.if-change-time.true)

pub returns : goal.returns
returns c = rw (ne_eqb _ _ c.if-change-time.false)
