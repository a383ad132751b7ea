-- `least_live`: at an index, m is the least letter of the listed roots before it.
use mathlib.Core.List.{map}
use Prim.Native.Nat.{ℕ, ◌≤◌}
use lib.ListN.{get_or}
use Rattle.diagram.specs.Table.{terminal_letter}
use Rattle.descent.proofs.Fill.{LeastTo}
use Rattle.descent.proofs.live.least_live.Given as goal

abbrev pub invariant-loop-place : goal.invariant-loop-place
invariant-loop-place l = (l.m ≤ terminal_letter) × LeastTo l.letter (map (λ (j : ℕ). get_or l.roots j 0) l.live) l.place-index l.m
