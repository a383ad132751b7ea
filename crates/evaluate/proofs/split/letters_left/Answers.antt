-- `letters_left`: the letters from the least one on.
use native.Mathlib.Omega.{arith}
use Rattle.evaluate.proofs.Remaining.{left_none, left_some}
use Rattle.evaluate.proofs.split.letters_left.Goals as goal

pub least_letter-m-requires : goal.least_letter-m-requires
least_letter-m-requires c = c.requires.1

pub returns-then-k-m : goal.returns-then-k-m
returns-then-k-m c = left_none c.least_letter-m.ensures c.if-k-m.true

pub returns : goal.returns
returns c = left_some c.least_letter-m.ensures (omega (arith, c.if-k-m.false)) c.requires.0.within.letters
