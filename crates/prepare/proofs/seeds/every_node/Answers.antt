use native.Mathlib.Omega.{arith}
use Prim.Native.Nat.{ℕ}
use lib.ListN.{length-replicate, get_or-replicate}
use Rattle.prepare.proofs.Seeding.{marking_first, marking_next}
use Rattle.prepare.proofs.seeds.every_node.Goals as goal

pub loop-n-init : goal.loop-n-init
loop-n-init c = marking_first _ _ (length-replicate {A = ℕ} 26 0) (λ j hj. get_or-replicate {A = ℕ} 26 j 0 0 hj)

pub loop-n-preserved : goal.loop-n-preserved
loop-n-preserved c = marking_next c.loop-n.invariant (omega (arith, c.loop-n-test.true, c.requires.within.nodes)) c.considered_bit.ensures
