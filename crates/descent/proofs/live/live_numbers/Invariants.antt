-- `live_numbers`: the listed places before the index hold the numbers.
use Prim.Native.Nat.{ℕ}
use lib.ListN.{get_or}
use Rattle.descent.proofs.Listed.{FilledAt}
use Rattle.descent.proofs.live.live_numbers.Given as goal

abbrev pub invariant-loop-place : goal.invariant-loop-place
invariant-loop-place l = FilledAt (λ (j : ℕ). get_or l.low (get_or l.roots j 0) 0) l.live l.count l.place-index l.out
