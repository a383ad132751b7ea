-- `by_entries` meets its contract: an input has no next change. Assumes nothing.
use mathlib.Core.Path.{sym, ◌∙◌}
use borrow.Author.Tests.{not-true, not-false}
use Rattle.rules.specs.State.{is_inner}
use Rattle.net.specs.Net.{at, net_circuit}
use Rattle.attempt.specs.Change.{change_by}
use Rattle.stir.proofs.Single.{outer_put, inner_put}
use native.Mathlib.Omega.{arith}
use Rattle.diagram.specs.Held.{held}
use Rattle.changes.proofs.entries.by_entries.Goals as goal

pub is_inner-requires : goal.is_inner-requires
is_inner-requires c = (c.requires.0.long, c.requires.0.within, c.requires.1.most)

pub returns-then-not-is_inner : goal.returns-then-not-is_inner
returns-then-not-is_inner c = outer_put c.requires.2 (is_inner (net_circuit c.args.net.now) c.args.n) (change_by (net_circuit c.args.net.now) c.args.time c.args.all c.args.n (at c.args.net.now 3) (held c.args.letter.now c.args.low.now c.args.high.now c.args.used) c.args.entries.now) (sym c.is_inner.ensures ∙ not-true _ c.if-not-is_inner.true-raw)

pub evaluate-requires : goal.evaluate-requires
evaluate-requires c = (record { cell = c.requires.0; node = c.requires.1; inner = not-true _ (sym c.is_inner.ensures ∙ not-false _ c.if-not-is_inner.false-raw) }, c.requires.2, c.requires.3, c.requires.4, omega arith)

pub returns : goal.returns
returns c = inner_put (at c.args.net.now 3) (is_inner (net_circuit c.args.net.now) c.args.n) (change_by (net_circuit c.args.net.now) c.args.time c.args.all c.args.n (at c.args.net.now 3) (held c.args.letter.now c.args.low.now c.args.high.now c.args.used) c.args.entries.now) (sym c.is_inner.ensures ∙ not-false _ c.if-not-is_inner.false-raw) c.evaluate.ensures
