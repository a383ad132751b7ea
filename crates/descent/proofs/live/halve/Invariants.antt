-- `halve`: the listed places before the index hold the parts.
use mathlib.Core.Bool.{cond}
use Prim.Native.Nat.{ℕ}
use lib.ListN.{get_or}
use lib.Dec.{eqb}
use Rattle.descent.proofs.Listed.{FilledAt}
use Rattle.descent.proofs.live.halve.Given as goal

abbrev pub invariant-loop-place : goal.invariant-loop-place
invariant-loop-place l = FilledAt (λ (j : ℕ). cond (eqb (get_or l.letter (get_or l.roots j 0) 0) l.m) (get_or l.side (get_or l.roots j 0) 0) (get_or l.roots j 0)) l.live l.count l.place-index l.out
