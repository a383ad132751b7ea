-- `make` meets its contract. Assumes nothing.
use Rattle.calls.proofs.Operands.{apply_operands, choose_operands, fix_operands}
use Rattle.calls.proofs.store.make.Goals as goal

pub apply-requires : goal.apply-requires
apply-requires c = record { fact = c.requires.0; operand = apply_operands c.in-Apply.is c.requires.1 }

pub choose-requires : goal.choose-requires
choose-requires c = record { fact = c.requires.0; operand = choose_operands c.in-Choose.is c.requires.1 }

pub fix-requires : goal.fix-requires
fix-requires c = record { fact = c.requires.0; operand = fix_operands c.in-Fix.is c.requires.1 }

pub shape_of-letter-in-Apply : goal.shape_of-letter-in-Apply
shape_of-letter-in-Apply c = c.apply.auto.letter

pub shape_of-low-in-Apply : goal.shape_of-low-in-Apply
shape_of-low-in-Apply c = c.apply.auto.low

pub shape_of-high-in-Apply : goal.shape_of-high-in-Apply
shape_of-high-in-Apply c = c.apply.auto.high

pub shape_of-index-in-Apply : goal.shape_of-index-in-Apply
shape_of-index-in-Apply c = c.apply.auto.index

pub returns-in-Apply : goal.returns-in-Apply
returns-in-Apply c = rw c.in-Apply.is c.apply.ensures

pub shape_of-letter-in-Choose : goal.shape_of-letter-in-Choose
shape_of-letter-in-Choose c = c.choose.auto.letter

pub shape_of-low-in-Choose : goal.shape_of-low-in-Choose
shape_of-low-in-Choose c = c.choose.auto.low

pub shape_of-high-in-Choose : goal.shape_of-high-in-Choose
shape_of-high-in-Choose c = c.choose.auto.high

pub shape_of-index-in-Choose : goal.shape_of-index-in-Choose
shape_of-index-in-Choose c = c.choose.auto.index

pub returns-in-Choose : goal.returns-in-Choose
returns-in-Choose c = rw c.in-Choose.is c.choose.ensures

pub shape_of-letter-in-Fix : goal.shape_of-letter-in-Fix
shape_of-letter-in-Fix c = c.fix.auto.letter

pub shape_of-low-in-Fix : goal.shape_of-low-in-Fix
shape_of-low-in-Fix c = c.fix.auto.low

pub shape_of-high-in-Fix : goal.shape_of-high-in-Fix
shape_of-high-in-Fix c = c.fix.auto.high

pub shape_of-index-in-Fix : goal.shape_of-index-in-Fix
shape_of-index-in-Fix c = c.fix.auto.index

pub returns-in-Fix : goal.returns-in-Fix
returns-in-Fix c = rw c.in-Fix.is c.fix.ensures
