-- `some_seed`: none of the listed places from k on is a seed's root that is not entry 0.
use Rattle.descent.proofs.Seeds.{NoneFrom}
use Rattle.descent.proofs.live.some_seed.Given as goal

abbrev pub invariant-loop-k : goal.invariant-loop-k
invariant-loop-k l = NoneFrom l.roots l.live l.count l.k
