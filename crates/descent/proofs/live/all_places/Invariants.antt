-- `all_places`: the places before a place hold themselves.
use Prim.Native.Nat.{ℕ}
use Rattle.descent.proofs.Fill.{FilledTo}
use Rattle.net.specs.Roots.{roots_length}
use Rattle.descent.proofs.live.all_places.Given as goal

abbrev pub invariant-loop-place : goal.invariant-loop-place
invariant-loop-place l = FilledTo (λ (j : ℕ). j) roots_length l.place l.out
