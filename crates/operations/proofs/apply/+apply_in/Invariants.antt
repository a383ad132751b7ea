-- `apply_in` meets its contract: each half has one letter less, and the cache is right in every table on the way. Assumes nothing.
use Rattle.operations.proofs.apply.+apply_in.Given as goal

abbrev pub decreases-apply_in : goal.decreases-apply_in
decreases-apply_in l = l.left
