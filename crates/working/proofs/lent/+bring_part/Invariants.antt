-- `bring_part` meets its contract: each half has one letter less, and the cache is right in every table on the way. Assumes nothing.
use Rattle.working.proofs.lent.+bring_part.Given as goal

abbrev pub decreases-bring_part : goal.decreases-bring_part
decreases-bring_part l = l.left
