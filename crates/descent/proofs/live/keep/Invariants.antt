-- `keep`: the listed places before the index hold their roots where they matter, else 0; those that do not hold 0 are listed again.
use mathlib.Core.Bool.{cond}
use Prim.Native.Nat.{ℕ}
use lib.ListN.{get_or}
use Rattle.descent.specs.Piece.{matters}
use Rattle.descent.proofs.Listed.{FilledAt, KeptTo}
use Rattle.descent.proofs.live.keep.Given as goal

abbrev pub invariant-loop-place : goal.invariant-loop-place
invariant-loop-place l = FilledAt (λ (j : ℕ). cond (matters l.net l.marks l.sole j) (get_or l.roots j 0) 0) l.live l.count l.place-index l.out × KeptTo (λ (j : ℕ). cond (matters l.net l.marks l.sole j) (get_or l.roots j 0) 0) l.live l.place-index l.list l.total
