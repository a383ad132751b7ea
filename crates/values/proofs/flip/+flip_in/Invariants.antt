-- `flip_in` meets its contract: it stops where all next changes are later; else the least letter falls, and each half has one letter less,
-- and the cache is right in every table on the way. Assumes nothing.
use Rattle.values.proofs.flip.+flip_in.Given as goal

abbrev pub decreases-flip_in : goal.decreases-flip_in
decreases-flip_in l = l.left
