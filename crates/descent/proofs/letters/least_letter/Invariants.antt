-- `least_letter`: at a root, m is the least letter of the roots before it.
use Rattle.descent.proofs.Fill.{LeastTo}
use Rattle.descent.proofs.letters.least_letter.Given as goal

abbrev pub invariant-loop-root : goal.invariant-loop-root
invariant-loop-root l = LeastTo l.letter l.roots l.root-index l.m
