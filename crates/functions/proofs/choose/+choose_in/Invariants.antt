-- `choose_in` meets its contract: each half has one letter less, and the cache is right in every table on the way. Assumes nothing.
use Rattle.functions.proofs.choose.+choose_in.Given as goal

abbrev pub decreases-choose_in : goal.decreases-choose_in
decreases-choose_in l = l.left
