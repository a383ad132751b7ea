-- `past_in` meets its contract: each half has one letter less, and the cache is right in every table on the way. Assumes nothing.
use Rattle.stir.proofs.rest.+past_in.Given as goal

abbrev pub decreases-past_in : goal.decreases-past_in
decreases-past_in l = l.left
