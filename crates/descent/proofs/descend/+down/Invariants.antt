-- `down` meets its contract: the least letter rises, so that each half has one letter less, and the memo is right in every table on the way. Assumes nothing.
use Rattle.descent.proofs.descend.+down.Given as goal

abbrev pub decreases-down : goal.decreases-down
decreases-down l = l.left
