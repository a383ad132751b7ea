-- `leaf_numbers`: the places before j hold the numbers.
use Prim.Native.Nat.{ℕ}
use lib.ListN.{get_or}
use Rattle.descent.proofs.Fill.{FilledTo}
use Rattle.net.specs.Roots.{roots_length}
use Rattle.descent.proofs.letters.leaf_numbers.Given as goal

abbrev pub invariant-loop-j : goal.invariant-loop-j
invariant-loop-j l = FilledTo (λ (i : ℕ). get_or l.low (get_or l.roots i 0) 0) roots_length l.j l.out
