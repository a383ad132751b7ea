-- `quiet` meets its contract: each half has one letter less. Assumes nothing.
use Rattle.descent.proofs.quiet.+quiet.Given as goal

abbrev pub decreases-quiet : goal.decreases-quiet
decreases-quiet l = l.left
