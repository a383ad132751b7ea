-- `closed` meets its contract. Assumes nothing.
use mathlib.Core.Path.{ap}
use native.Mathlib.Omega.{arith}
use Rattle.table.specs.Stop.{stopped}
use Rattle.calls.proofs.Answers.{closed_full, closed_done}
use Rattle.calls.proofs.close.closed.Goals as goal

pub clear-requires : goal.clear-requires
clear-requires c = tt

pub returns-in-Going : goal.returns-in-Going
returns-in-Going c = closed_done (ap stopped c.in-Going.is)

pub shape_of-letter : goal.shape_of-letter
shape_of-letter c = omega (arith, c.clear.auto.letter)

pub shape_of-low : goal.shape_of-low
shape_of-low c = omega (arith, c.clear.auto.low)

pub shape_of-high : goal.shape_of-high
shape_of-high c = omega (arith, c.clear.auto.high)

pub returns-in-Full : goal.returns-in-Full
returns-in-Full c = closed_full (ap stopped c.in-Full.is) c.clear.ensures
