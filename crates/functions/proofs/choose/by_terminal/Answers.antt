-- `by_terminal` meets its contract: each arm by its test. Assumes nothing.
use borrow.Author.Tests.{eq-eqb, ne_eqb}
use Rattle.functions.proofs.choose.by_terminal.Goals as goal

pub returns-then-low-i-eq1 : goal.returns-then-low-i-eq1
returns-then-low-i-eq1 c = simp (eq-eqb _ _ c.if-low-i-eq1.true)

pub returns-else-low-i-eq1 : goal.returns-else-low-i-eq1
returns-else-low-i-eq1 c = simp (ne_eqb _ _ c.if-low-i-eq1.false)
