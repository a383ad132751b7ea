-- `roots_for`: the places before j hold the roots; then the node's pending change.
use Prim.Native.Nat.{ℕ}
use lib.ListN.{get_or}
use Rattle.descent.proofs.Fill.{FilledTo}
use Rattle.net.specs.Roots.{roots_length}
use Rattle.attempt.proofs.roots_for.Given as goal

abbrev pub invariant-loop-j : goal.invariant-loop-j
invariant-loop-j l = FilledTo (λ (i : ℕ). get_or l.roots i 0) roots_length l.j l.out
