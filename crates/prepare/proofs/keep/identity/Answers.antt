use mathlib.Core.List.{List}
use Prim.Native.Nat.{ℕ}
use lib.ListN.{replicate, length-replicate, get_or-replicate}
use Rattle.prepare.proofs.Keeping.{diagonal_first, diagonal_next}
use Rattle.prepare.proofs.keep.identity.Goals as goal

pub loop-x-init : goal.loop-x-init
loop-x-init c = diagonal_first (length-replicate {A = List ℕ} 24 (replicate 24 0)) (λ a ha. get_or-replicate {A = List ℕ} 24 a (replicate 24 0) _ ha)

pub loop-x-preserved : goal.loop-x-preserved
loop-x-preserved c = diagonal_next c.loop-x.invariant c.loop-x-test.true
