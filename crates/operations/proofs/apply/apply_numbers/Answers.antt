-- `apply_numbers` meets its contract: one arm for each operation. Assumes nothing.
use Rattle.operations.proofs.apply.apply_numbers.Goals as goal

pub returns-in-Smaller : goal.returns-in-Smaller
returns-in-Smaller c = rw c.in-Smaller.is c.least.ensures

pub returns-in-Sum : goal.returns-in-Sum
returns-in-Sum c = rw c.in-Sum.is c.sum.ensures

pub returns-in-Flip : goal.returns-in-Flip
returns-in-Flip c = rw c.in-Flip.is c.flip.ensures
