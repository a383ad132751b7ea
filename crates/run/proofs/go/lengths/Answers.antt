-- `lengths` meets its contract: the table, then working. Assumes nothing.
use mathlib.Core.Path.{sym, ◌∙◌}
use borrow.Author.Tests.{not-true, not-false}
use Rattle.run.proofs.go.lengths.Goals as goal

pub returns-then-not-lengths_legal : goal.returns-then-not-lengths_legal
returns-then-not-lengths_legal c = rw (sym c.lengths_legal.ensures ∙ not-true _ c.if-not-lengths_legal.true-raw)

pub returns-then-not-lengths_legal-2 : goal.returns-then-not-lengths_legal-2
returns-then-not-lengths_legal-2 c = rw ((sym c.lengths_legal.ensures ∙ not-false _ c.if-not-lengths_legal.false-raw), (sym c.lengths_legal-2.ensures ∙ not-true _ c.if-not-lengths_legal-2.true-raw))

pub returns : goal.returns
returns c = rw ((sym c.lengths_legal.ensures ∙ not-false _ c.if-not-lengths_legal.false-raw), (sym c.lengths_legal-2.ensures ∙ not-false _ c.if-not-lengths_legal-2.false-raw))
