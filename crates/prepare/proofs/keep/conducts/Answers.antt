-- `conducts` meets its contract: a p by the opposite of its gate. Assumes nothing.
use native.Mathlib.Omega.{arith}
use Rattle.prepare.proofs.Reading.{laid_few, laid_gate}
use Rattle.prepare.proofs.Keeping.{conducts_opposite, conducts_same}
use Rattle.prepare.proofs.keep.conducts.Goals as goal

pub overflow_add-gate : goal.overflow_add-gate
overflow_add-gate c = omega (arith, laid_few _ c.requires.laid.0 _ c.requires.laid.1)

pub offset_bounds-net-at : goal.offset_bounds-net-at
offset_bounds-net-at c = omega (arith, laid_few _ c.requires.laid.0 _ c.requires.laid.1)

pub bounds-net-at : goal.bounds-net-at
bounds-net-at c = omega (arith, c.requires.laid.0.long, laid_few _ c.requires.laid.0 _ c.requires.laid.1)

pub overflow_cast-gate : goal.overflow_cast-gate
overflow_cast-gate c = omega (arith, laid_gate _ c.requires.laid.0 _ c.requires.laid.1)

pub offset_bounds-values-gate : goal.offset_bounds-values-gate
offset_bounds-values-gate c = omega (arith, laid_gate _ c.requires.laid.0 _ c.requires.laid.1)

pub bounds-values-gate : goal.bounds-values-gate
bounds-values-gate c = laid_gate _ c.requires.laid.0 _ c.requires.laid.1

pub overflow_add-at : goal.overflow_add-at
overflow_add-at c = omega (arith, laid_few _ c.requires.laid.0 _ c.requires.laid.1)

pub offset_bounds-net-at-2 : goal.offset_bounds-net-at-2
offset_bounds-net-at-2 c = omega (arith, laid_few _ c.requires.laid.0 _ c.requires.laid.1)

pub bounds-net-at-2 : goal.bounds-net-at-2
bounds-net-at-2 c = omega (arith, c.requires.laid.0.long, laid_few _ c.requires.laid.0 _ c.requires.laid.1)

pub opposite-requires : goal.opposite-requires
opposite-requires c = (c.requires.fact.0, c.requires.fact.1 _ (laid_gate _ c.requires.laid.0 _ c.requires.laid.1))

pub shape_of-letter-then-net-at-eq1 : goal.shape_of-letter-then-net-at-eq1
shape_of-letter-then-net-at-eq1 c = omega (arith, c.opposite.auto.letter)

pub shape_of-low-then-net-at-eq1 : goal.shape_of-low-then-net-at-eq1
shape_of-low-then-net-at-eq1 c = omega (arith, c.opposite.auto.low)

pub shape_of-high-then-net-at-eq1 : goal.shape_of-high-then-net-at-eq1
shape_of-high-then-net-at-eq1 c = omega (arith, c.opposite.auto.high)

pub shape_of-index-then-net-at-eq1 : goal.shape_of-index-then-net-at-eq1
shape_of-index-then-net-at-eq1 c = omega (arith, c.opposite.auto.index)

pub returns-then-net-at-eq1 : goal.returns-then-net-at-eq1
returns-then-net-at-eq1 c = conducts_opposite c.requires.fact.0 _ _ c.if-net-at-eq1.true c.opposite.ensures

pub returns : goal.returns
returns c = conducts_same c.requires.fact.0 _ _ c.if-net-at-eq1.false (c.requires.fact.1 _ (laid_gate _ c.requires.laid.0 _ c.requires.laid.1))
