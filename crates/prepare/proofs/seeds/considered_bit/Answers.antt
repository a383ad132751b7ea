-- `considered_bit` meets its contract: every group, or the one. Assumes nothing.
use native.Mathlib.Omega.{arith}
use mathlib.Core.Path.{sym, ◌∙◌}
use borrow.Author.Tests.{not-true, not-false, eq-eqb, ne_eqb}
use Rattle.prepare.proofs.Reading.{laid_label}
use Rattle.prepare.proofs.seeds.considered_bit.Goals as goal

pub is_inner-requires : goal.is_inner-requires
is_inner-requires c = (c.requires.0.long, c.requires.0.within, c.requires.1)

pub returns-then-not-is_inner : goal.returns-then-not-is_inner
returns-then-not-is_inner c = rw (sym c.is_inner.ensures ∙ not-true _ c.if-not-is_inner.true-raw)

pub returns-then-only-eq0 : goal.returns-then-only-eq0
returns-then-only-eq0 c = rw (sym c.is_inner.ensures ∙ not-false _ c.if-not-is_inner.false-raw, eq-eqb _ 0 c.if-only-eq0.true)

pub overflow_add-g : goal.overflow_add-g
overflow_add-g c = omega (arith, c.requires.1, c.requires.0.within.nodes)

pub offset_bounds-net-n : goal.offset_bounds-net-n
offset_bounds-net-n c = omega (arith, c.requires.1, c.requires.0.within.nodes)

pub bounds-net-n : goal.bounds-net-n
bounds-net-n c = omega (arith, c.requires.1, c.requires.0.within.nodes, c.requires.0.long)

pub overflow_cast-g-2 : goal.overflow_cast-g-2
overflow_cast-g-2 c = omega (arith, (laid_label _ c.requires.0 _ c.requires.1 (sym c.is_inner.ensures ∙ not-false _ c.if-not-is_inner.false-raw)).1)

pub returns-then-g-only : goal.returns-then-g-only
returns-then-g-only c = rw (sym c.is_inner.ensures ∙ not-false _ c.if-not-is_inner.false-raw, ne_eqb _ 0 c.if-only-eq0.false, eq-eqb _ _ (sym (laid_label _ c.requires.0 _ c.requires.1 (sym c.is_inner.ensures ∙ not-false _ c.if-not-is_inner.false-raw)).0 ∙ c.if-g-only.true))

pub returns-else-g-only : goal.returns-else-g-only
returns-else-g-only c = rw (sym c.is_inner.ensures ∙ not-false _ c.if-not-is_inner.false-raw, ne_eqb _ 0 c.if-only-eq0.false, ne_eqb _ _ (λ e. c.if-g-only.false ((laid_label _ c.requires.0 _ c.requires.1 (sym c.is_inner.ensures ∙ not-false _ c.if-not-is_inner.false-raw)).0 ∙ e)))
