-- `own_load` reads the node's capacitance, and its value at its place.
use borrow.Author.Tests.{eq-eqb, ne_eqb}
use Rattle.plain.proofs.loads.own_load.Goals as goal

pub returns-then-value-new : goal.returns-then-value-new
returns-then-value-new c = rw (← c.capacitance-charge.ensures, ← c.read-value.ensures, eq-eqb c.read-value.result c.args.new c.if-value-new.true)

pub returns : goal.returns
returns c = rw (← c.capacitance-charge.ensures, ← c.read-value.ensures, ne_eqb c.read-value.result c.args.new c.if-value-new.false)
