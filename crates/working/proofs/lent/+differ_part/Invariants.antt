-- `differ_part` meets its contract: each pair of halves has one letter less, and the cache is right in every table on the way. Assumes nothing.
use Rattle.working.proofs.lent.+differ_part.Given as goal

abbrev pub decreases-differ_part : goal.decreases-differ_part
decreases-differ_part l = l.left
