-- `copy`: the listed places before the index hold the roots.
use Prim.Native.Nat.{ℕ}
use lib.ListN.{get_or}
use Rattle.descent.proofs.Listed.{FilledAt}
use Rattle.descent.proofs.live.copy.Given as goal

abbrev pub invariant-loop-place : goal.invariant-loop-place
invariant-loop-place l = FilledAt (λ (j : ℕ). get_or l.roots j 0) l.live l.count l.place-index l.out
