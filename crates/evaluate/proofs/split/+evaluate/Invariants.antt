-- `evaluate` meets its contract: each half has fewer letters left. Assumes nothing.
use Rattle.evaluate.proofs.split.+evaluate.Given as goal

abbrev pub decreases-evaluate : goal.decreases-evaluate
decreases-evaluate l = l.left
