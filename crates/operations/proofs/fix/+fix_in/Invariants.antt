-- `fix_in` meets its contract: each half has one letter less, and the cache is right in every table on the way. Assumes nothing.
use Rattle.operations.proofs.fix.+fix_in.Given as goal

abbrev pub decreases-fix_in : goal.decreases-fix_in
decreases-fix_in l = l.left
