-- `holds_seed`: none of the nodes before m is a seed of the piece.
use Rattle.descent.proofs.Seeds.{NoneTo}
use Rattle.descent.proofs.settle.holds_seed.Given as goal

abbrev pub invariant-loop-m : goal.invariant-loop-m
invariant-loop-m l = NoneTo l.numbers l.marks l.m
