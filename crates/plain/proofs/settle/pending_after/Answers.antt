-- `pending_after`, in both cases.
use borrow.Author.Tests.{eq-eqb, ne_eqb}
use Rattle.plain.proofs.settle.pending_after.Goals as goal

pub returns-then-pending-time : goal.returns-then-pending-time
returns-then-pending-time c = rw (eq-eqb _ _ c.if-pending-time.true)

pub returns : goal.returns
returns c = rw (ne_eqb _ _ c.if-pending-time.false)
