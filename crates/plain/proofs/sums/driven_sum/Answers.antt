-- `driven_sum` goes by the value.
use borrow.Author.Tests.{eq-eqb, ne_eqb}
use Rattle.plain.proofs.sums.driven_sum.Goals as goal

pub returns-then-value-eq1 : goal.returns-then-value-eq1
returns-then-value-eq1 c = rw (eq-eqb c.args.value 1 c.if-value-eq1.true)

pub returns : goal.returns
returns c = rw (ne_eqb c.args.value 1 c.if-value-eq1.false)
