-- `any` meets its contract: a bit and one that is 0 or the same is that bit. Assumes nothing.
use native.Mathlib.Omega.{arith}
use Rattle.prepare.proofs.Seeding.{any_same}
use Rattle.prepare.proofs.seeds.any.Goals as goal

pub returns-then-z-a : goal.returns-then-z-a
returns-then-z-a c = any_same c.requires.0 _ _ c.if-z-a.true c.requires.1 c.requires.3

pub either-requires : goal.either-requires
either-requires c = (c.requires.0, c.requires.1, c.requires.2)

pub shape_of-letter : goal.shape_of-letter
shape_of-letter c = omega (arith, c.either.auto.letter)

pub shape_of-low : goal.shape_of-low
shape_of-low c = omega (arith, c.either.auto.low)

pub shape_of-high : goal.shape_of-high
shape_of-high c = omega (arith, c.either.auto.high)

pub shape_of-index : goal.shape_of-index
shape_of-index c = omega (arith, c.either.auto.index)

pub returns : goal.returns
returns c = c.either.ensures
