-- `halves`: the places before j hold the parts.
use mathlib.Core.Bool.{cond}
use Prim.Native.Nat.{ℕ}
use lib.ListN.{get_or}
use lib.Dec.{eqb}
use Rattle.descent.proofs.Fill.{FilledTo}
use Rattle.net.specs.Roots.{roots_length}
use Rattle.descent.proofs.letters.halves.Given as goal

abbrev pub invariant-loop-j : goal.invariant-loop-j
invariant-loop-j l = FilledTo (λ (i : ℕ). cond (eqb (get_or l.letter (get_or l.roots i 0) 0) l.m) (get_or l.side (get_or l.roots i 0) 0) (get_or l.roots i 0)) roots_length l.j l.out
