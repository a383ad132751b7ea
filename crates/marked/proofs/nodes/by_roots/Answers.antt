-- `by_roots` meets its contract: an input has no next change. Assumes nothing.
use mathlib.Core.Path.{sym, ◌∙◌}
use borrow.Author.Tests.{not-true, not-false}
use Rattle.rules.specs.State.{is_inner}
use Rattle.net.specs.Net.{at, net_circuit}
use Rattle.descent.specs.Settle.{settled_by}
use Rattle.stir.proofs.Single.{outer_put}
use Rattle.marked.specs.ByRoots.{roots_for}
use Rattle.marked.proofs.Rooting.{own_rooted, own_settled}
use Rattle.diagram.specs.Held.{held}
use Rattle.marked.proofs.nodes.by_roots.Goals as goal

pub is_inner-requires : goal.is_inner-requires
is_inner-requires c = (c.requires.0.cell.long, c.requires.0.cell.within, c.requires.1.most)

pub returns-then-not-is_inner : goal.returns-then-not-is_inner
returns-then-not-is_inner c = outer_put c.requires.2 (is_inner (net_circuit c.args.net.now) c.args.n) (settled_by (net_circuit c.args.net.now) c.args.time c.args.n (at c.args.net.now 3) (held c.args.wletter.now c.args.wlow.now c.args.whigh.now c.args.wused) (roots_for c.args.roots c.args.n)) (sym c.is_inner.ensures ∙ not-true _ c.if-not-is_inner.true-raw)

pub descend-requires : goal.descend-requires
descend-requires c = record { rooted = own_rooted c.requires.0 c.requires.1 (sym c.is_inner.ensures ∙ not-false _ c.if-not-is_inner.false-raw) c.roots_for-own.ensures; fact = c.requires.2 }

pub returns : goal.returns
returns c = own_settled c.requires.0 c.requires.1 (sym c.is_inner.ensures ∙ not-false _ c.if-not-is_inner.false-raw) c.roots_for-own.ensures c.args.time c.descend.ensures
