-- `opposite` meets its contract. A choice of entries 0 and 1. Assumes nothing.
use native.Mathlib.Omega.{arith}
use Rattle.functions.proofs.Carry.{whole_operand}
use Rattle.working.proofs.Grow.{open_three, opposite_grown}
use Rattle.working.proofs.opposite.Goals as goal

pub choose-requires : goal.choose-requires
choose-requires c = record { fact = c.requires.0; operand = (whole_operand c.requires.1, whole_operand (omega (arith, open_three c.requires.0)), whole_operand (omega (arith, open_three c.requires.0))) }

pub returns : goal.returns
returns c = opposite_grown c.requires.0 _ c.choose.ensures
