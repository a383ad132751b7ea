-- `group_of` meets its contract: the label stands beside the nodes. Assumes nothing.
use native.Mathlib.Omega.{arith}
use mathlib.Core.Path.{sym, ◌∙◌}
use Rattle.prepare.proofs.Reading.{laid_few, laid_first, laid_second, laid_by_first, laid_by_second, laid_no_group}
use Rattle.prepare.proofs.group.group_of.Goals as goal

pub overflow_add-first : goal.overflow_add-first
overflow_add-first c = omega (arith, laid_few _ c.requires.0 _ c.requires.1)

pub offset_bounds-net-at : goal.offset_bounds-net-at
offset_bounds-net-at c = omega (arith, laid_few _ c.requires.0 _ c.requires.1)

pub bounds-net-at : goal.bounds-net-at
bounds-net-at c = omega (arith, c.requires.0.long, laid_few _ c.requires.0 _ c.requires.1)

pub is_inner-requires : goal.is_inner-requires
is_inner-requires c = (c.requires.0.long, c.requires.0.within, (c.requires.0.within.transistor _ c.requires.1).first)

pub overflow_cast-result : goal.overflow_cast-result
overflow_cast-result c = omega (arith, laid_first _ c.requires.0 _ c.requires.1)

pub overflow_add-result : goal.overflow_add-result
overflow_add-result c = omega (arith, laid_first _ c.requires.0 _ c.requires.1)

pub offset_bounds-net-first : goal.offset_bounds-net-first
offset_bounds-net-first c = omega (arith, laid_first _ c.requires.0 _ c.requires.1)

pub bounds-net-first : goal.bounds-net-first
bounds-net-first c = omega (arith, c.requires.0.long, laid_first _ c.requires.0 _ c.requires.1)

pub overflow_cast-result-then-is_inner : goal.overflow_cast-result-then-is_inner
overflow_cast-result-then-is_inner c = omega (arith, (laid_by_first _ c.requires.0 _ c.requires.1 (sym c.is_inner.ensures ∙ c.if-is_inner.true)).1)

pub returns-then-is_inner : goal.returns-then-is_inner
returns-then-is_inner c = laid_by_first _ c.requires.0 _ c.requires.1 (sym c.is_inner.ensures ∙ c.if-is_inner.true)

pub overflow_add-second : goal.overflow_add-second
overflow_add-second c = omega (arith, laid_few _ c.requires.0 _ c.requires.1)

pub offset_bounds-net-at-2 : goal.offset_bounds-net-at-2
offset_bounds-net-at-2 c = omega (arith, laid_few _ c.requires.0 _ c.requires.1)

pub bounds-net-at-2 : goal.bounds-net-at-2
bounds-net-at-2 c = omega (arith, c.requires.0.long, laid_few _ c.requires.0 _ c.requires.1)

pub is_inner-requires-2 : goal.is_inner-requires-2
is_inner-requires-2 c = (c.requires.0.long, c.requires.0.within, (c.requires.0.within.transistor _ c.requires.1).second)

pub overflow_cast-result-then-is_inner-2 : goal.overflow_cast-result-then-is_inner-2
overflow_cast-result-then-is_inner-2 c = omega (arith, laid_second _ c.requires.0 _ c.requires.1)

pub overflow_add-result-then-is_inner-2 : goal.overflow_add-result-then-is_inner-2
overflow_add-result-then-is_inner-2 c = omega (arith, laid_second _ c.requires.0 _ c.requires.1)

pub offset_bounds-net-second : goal.offset_bounds-net-second
offset_bounds-net-second c = omega (arith, laid_second _ c.requires.0 _ c.requires.1)

pub bounds-net-second : goal.bounds-net-second
bounds-net-second c = omega (arith, c.requires.0.long, laid_second _ c.requires.0 _ c.requires.1)

pub overflow_cast-result-then-is_inner-2-2 : goal.overflow_cast-result-then-is_inner-2-2
overflow_cast-result-then-is_inner-2-2 c = omega (arith, (laid_by_second _ c.requires.0 _ c.requires.1 (sym c.is_inner.ensures ∙ c.if-is_inner.false) (sym c.is_inner-2.ensures ∙ c.if-is_inner-2.true)).1)

pub returns-then-is_inner-2 : goal.returns-then-is_inner-2
returns-then-is_inner-2 c = laid_by_second _ c.requires.0 _ c.requires.1 (sym c.is_inner.ensures ∙ c.if-is_inner.false) (sym c.is_inner-2.ensures ∙ c.if-is_inner-2.true)

pub returns : goal.returns
returns c = (laid_no_group _ c.requires.0 _ c.requires.1 (sym c.is_inner.ensures ∙ c.if-is_inner.false) (sym c.is_inner-2.ensures ∙ c.if-is_inner-2.false), omega arith)
