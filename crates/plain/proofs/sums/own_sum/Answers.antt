-- `own_sum` reads the node's capacitance, and its value at its place.
use borrow.Author.Tests.{eq-eqb, ne_eqb}
use Rattle.plain.proofs.sums.own_sum.Goals as goal

pub returns-then-value-eq1 : goal.returns-then-value-eq1
returns-then-value-eq1 c = rw (← c.capacitance-charge.ensures, ← c.read-value.ensures, eq-eqb c.read-value.result 1 c.if-value-eq1.true)

pub returns : goal.returns
returns c = rw (← c.capacitance-charge.ensures, ← c.read-value.ensures, ne_eqb c.read-value.result 1 c.if-value-eq1.false)
