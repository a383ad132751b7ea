-- `without` meets its contract. A choice with entry 0. Assumes nothing.
use native.Mathlib.Omega.{arith}
use Rattle.functions.proofs.Carry.{whole_operand}
use Rattle.working.proofs.Grow.{open_three, without_grown}
use Rattle.working.proofs.without.Goals as goal

pub choose-requires : goal.choose-requires
choose-requires c = record { fact = c.requires.0; operand = (whole_operand c.requires.2, whole_operand (omega (arith, open_three c.requires.0)), whole_operand c.requires.1) }

pub returns : goal.returns
returns c = without_grown c.requires.0 _ _ c.choose.ensures
