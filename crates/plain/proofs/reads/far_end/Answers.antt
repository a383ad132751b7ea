-- `far_end` reads the two ends at their places.
use mathlib.Core.Path.{sym, ◌∙◌}
use borrow.Author.Tests.{eq-eqb, ne_eqb}
use Rattle.plain.proofs.reads.far_end.Goals as goal

pub returns-then-first-n : goal.returns-then-first-n
returns-then-first-n c = rw (eq-eqb _ _ (sym c.read-first.ensures ∙ c.if-first-n.true)) c.read.ensures

pub returns : goal.returns
returns c = rw (ne_eqb _ _ (λ e. c.if-first-n.false (c.read-first.ensures ∙ e))) c.read-first.ensures
