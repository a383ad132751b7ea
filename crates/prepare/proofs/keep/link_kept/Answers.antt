-- `link_kept` meets its contract: nothing changes where the transistor is nowhere kept, or an end is driven. Assumes nothing.
use native.Mathlib.Omega.{arith}
use mathlib.Core.Path.{sym, ◌∙◌}
use Prim.Native.Nat.{◌-◌}
use borrow.Author.Tests.{not-true, not-false}
use Rattle.working.proofs.Grow.{open_three}
use Rattle.rules.specs.Label.{between_inner}
use Rattle.net.specs.Net.{net_transistor, net_circuit}
use Rattle.prepare.proofs.Reading.{laid_few, laid_first, laid_second, laid_between}
use Rattle.prepare.proofs.Keeping.{link_nowhere, link_driven, link_between}
use Rattle.prepare.proofs.keep.link_kept.Goals as goal

pub returns-then-kept-eq0 : goal.returns-then-kept-eq0
returns-then-kept-eq0 c = ((λ z. link_nowhere c.requires.fact.0 (between_inner (net_circuit c.args.net.now) (net_transistor c.args.net.now c.args.i)) c.args.kept ((net_transistor c.args.net.now c.args.i).first - 2) ((net_transistor c.args.net.now c.args.i).second - 2) c.args.joined.now c.requires.fact.2 c.if-kept-eq0.true), (λ z. absurd (omega (arith, z, open_three c.requires.fact.0))))

pub between_inner-requires : goal.between_inner-requires
between_inner-requires c = (c.requires.laid.0.long, c.requires.laid.0.within, c.requires.laid.1)

pub returns-then-not-between_inner : goal.returns-then-not-between_inner
returns-then-not-between_inner c = ((λ z. link_driven c.requires.fact.0 (between_inner (net_circuit c.args.net.now) (net_transistor c.args.net.now c.args.i)) c.args.kept ((net_transistor c.args.net.now c.args.i).first - 2) ((net_transistor c.args.net.now c.args.i).second - 2) c.args.joined.now c.requires.fact.2 (sym c.between_inner.ensures ∙ not-true _ c.if-not-between_inner.true-raw)), (λ z. absurd (omega (arith, z, open_three c.requires.fact.0))))

pub overflow_add-a : goal.overflow_add-a
overflow_add-a c = omega (arith, laid_few _ c.requires.laid.0 _ c.requires.laid.1)

pub offset_bounds-net-at : goal.offset_bounds-net-at
offset_bounds-net-at c = omega (arith, laid_few _ c.requires.laid.0 _ c.requires.laid.1)

pub bounds-net-at : goal.bounds-net-at
bounds-net-at c = omega (arith, c.requires.laid.0.long, laid_few _ c.requires.laid.0 _ c.requires.laid.1)

pub overflow_cast-a : goal.overflow_cast-a
overflow_cast-a c = omega (arith, laid_first _ c.requires.laid.0 _ c.requires.laid.1)

pub overflow_sub-a : goal.overflow_sub-a
overflow_sub-a c = omega (arith, (laid_between _ c.requires.laid.0 _ c.requires.laid.1 (sym c.between_inner.ensures ∙ not-false _ c.if-not-between_inner.false-raw)).0.0)

pub overflow_add-b : goal.overflow_add-b
overflow_add-b c = omega (arith, laid_few _ c.requires.laid.0 _ c.requires.laid.1)

pub offset_bounds-net-at-2 : goal.offset_bounds-net-at-2
offset_bounds-net-at-2 c = omega (arith, laid_few _ c.requires.laid.0 _ c.requires.laid.1)

pub bounds-net-at-2 : goal.bounds-net-at-2
bounds-net-at-2 c = omega (arith, c.requires.laid.0.long, laid_few _ c.requires.laid.0 _ c.requires.laid.1)

pub overflow_cast-b : goal.overflow_cast-b
overflow_cast-b c = omega (arith, laid_second _ c.requires.laid.0 _ c.requires.laid.1)

pub overflow_sub-b : goal.overflow_sub-b
overflow_sub-b c = omega (arith, (laid_between _ c.requires.laid.0 _ c.requires.laid.1 (sym c.between_inner.ensures ∙ not-false _ c.if-not-between_inner.false-raw)).1.0)

pub link-requires : goal.link-requires
link-requires c = (c.requires.fact.0, c.requires.fact.1, omega (arith, (laid_between _ c.requires.laid.0 _ c.requires.laid.1 (sym c.between_inner.ensures ∙ not-false _ c.if-not-between_inner.false-raw)).0.0, (laid_between _ c.requires.laid.0 _ c.requires.laid.1 (sym c.between_inner.ensures ∙ not-false _ c.if-not-between_inner.false-raw)).0.1, (laid_between _ c.requires.laid.0 _ c.requires.laid.1 (sym c.between_inner.ensures ∙ not-false _ c.if-not-between_inner.false-raw)).1.0, (laid_between _ c.requires.laid.0 _ c.requires.laid.1 (sym c.between_inner.ensures ∙ not-false _ c.if-not-between_inner.false-raw)).1.1), omega (arith, (laid_between _ c.requires.laid.0 _ c.requires.laid.1 (sym c.between_inner.ensures ∙ not-false _ c.if-not-between_inner.false-raw)).0.0, (laid_between _ c.requires.laid.0 _ c.requires.laid.1 (sym c.between_inner.ensures ∙ not-false _ c.if-not-between_inner.false-raw)).0.1, (laid_between _ c.requires.laid.0 _ c.requires.laid.1 (sym c.between_inner.ensures ∙ not-false _ c.if-not-between_inner.false-raw)).1.0, (laid_between _ c.requires.laid.0 _ c.requires.laid.1 (sym c.between_inner.ensures ∙ not-false _ c.if-not-between_inner.false-raw)).1.1), c.requires.fact.2)

pub shape_of-letter : goal.shape_of-letter
shape_of-letter c = omega (arith, c.link.auto.letter)

pub shape_of-low : goal.shape_of-low
shape_of-low c = omega (arith, c.link.auto.low)

pub shape_of-high : goal.shape_of-high
shape_of-high c = omega (arith, c.link.auto.high)

pub shape_of-index : goal.shape_of-index
shape_of-index c = omega (arith, c.link.auto.index)

pub returns : goal.returns
returns c = ((λ z. link_between (between_inner (net_circuit c.args.net.now) (net_transistor c.args.net.now c.args.i)) c.args.kept ((net_transistor c.args.net.now c.args.i).first - 2) ((net_transistor c.args.net.now c.args.i).second - 2) c.args.joined.now (sym c.between_inner.ensures ∙ not-false _ c.if-not-between_inner.false-raw) (c.link.ensures.0 z)), (λ z. c.link.ensures.1 z))
