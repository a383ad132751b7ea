-- `driven_load` goes by the value.
use borrow.Author.Tests.{eq-eqb, ne_eqb}
use Rattle.plain.proofs.loads.driven_load.Goals as goal

pub returns-then-value-new : goal.returns-then-value-new
returns-then-value-new c = rw (eq-eqb c.args.value c.args.new c.if-value-new.true)

pub returns : goal.returns
returns c = rw (ne_eqb c.args.value c.args.new c.if-value-new.false)
