-- `entries::all_among` meets its contract: a terminal has one number, and a branch takes the numbers of its parts, which are earlier entries. Assumes nothing.
use Rattle.record.proofs.entries.+all_among.Given as goal

abbrev pub decreases-all_among : goal.decreases-all_among
decreases-all_among l = l.e
