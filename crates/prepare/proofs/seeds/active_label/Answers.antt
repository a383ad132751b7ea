-- `active_label` meets its contract: the label stands beside the nodes. Assumes nothing.
use native.Mathlib.Omega.{arith}
use mathlib.Core.Path.{sym, ◌∙◌}
use borrow.Author.Tests.{not-true, not-false}
use Rattle.lists.proofs.Cases.{true_false}
use Rattle.prepare.proofs.Reading.{laid_label}
use Rattle.prepare.proofs.seeds.active_label.Goals as goal

pub offset_bounds-seeds-at : goal.offset_bounds-seeds-at
offset_bounds-seeds-at c = omega (arith, c.requires.1, c.requires.0.within.nodes)

pub bounds-seeds-at : goal.bounds-seeds-at
bounds-seeds-at c = omega (arith, c.requires.1, c.requires.0.within.nodes)

pub returns-then-seeds-at-eq0 : goal.returns-then-seeds-at-eq0
returns-then-seeds-at-eq0 c = (omega arith, (λ inner ne. absurd (ne c.if-seeds-at-eq0.true)))

pub is_inner-requires : goal.is_inner-requires
is_inner-requires c = (c.requires.0.long, c.requires.0.within, c.requires.1)

pub returns-then-not-is_inner : goal.returns-then-not-is_inner
returns-then-not-is_inner c = (omega arith, (λ inner ne. true_false _ inner (sym c.is_inner.ensures ∙ not-true _ c.if-not-is_inner.true-raw)))

pub overflow_add-result : goal.overflow_add-result
overflow_add-result c = omega (arith, c.requires.1, c.requires.0.within.nodes)

pub offset_bounds-net-at : goal.offset_bounds-net-at
offset_bounds-net-at c = omega (arith, c.requires.1, c.requires.0.within.nodes)

pub bounds-net-at : goal.bounds-net-at
bounds-net-at c = omega (arith, c.requires.1, c.requires.0.within.nodes, c.requires.0.long)

pub overflow_cast-result : goal.overflow_cast-result
overflow_cast-result c = omega (arith, (laid_label _ c.requires.0 _ c.requires.1 (sym c.is_inner.ensures ∙ not-false _ c.if-not-is_inner.false-raw)).1)

pub returns : goal.returns
returns c = ((laid_label _ c.requires.0 _ c.requires.1 (sym c.is_inner.ensures ∙ not-false _ c.if-not-is_inner.false-raw)).1, (λ inner ne. (laid_label _ c.requires.0 _ c.requires.1 (sym c.is_inner.ensures ∙ not-false _ c.if-not-is_inner.false-raw)).0))
