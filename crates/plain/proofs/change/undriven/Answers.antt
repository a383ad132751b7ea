-- `undriven` asks the second side only where the first is infinite.
use mathlib.Core.Path.{sym, ◌∙◌}
use Rattle.plain.proofs.change.undriven.Goals as goal

pub returns-then-infinite : goal.returns-then-infinite
returns-then-infinite c = rw (sym c.infinite.ensures ∙ c.if-infinite.true) c.infinite-then-infinite.ensures

pub returns : goal.returns
returns c = rw (sym c.infinite.ensures ∙ c.if-infinite.false)
