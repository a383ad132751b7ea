-- `both` meets its contract. A choice with entry 0. Assumes nothing.
use native.Mathlib.Omega.{arith}
use Rattle.functions.proofs.Carry.{whole_operand}
use Rattle.working.proofs.Grow.{open_three, both_grown}
use Rattle.working.proofs.both.Goals as goal

pub choose-requires : goal.choose-requires
choose-requires c = record { fact = c.requires.0; operand = (whole_operand c.requires.1, whole_operand c.requires.2, whole_operand (omega (arith, open_three c.requires.0))) }

pub returns : goal.returns
returns c = both_grown c.requires.0 _ _ c.choose.ensures
