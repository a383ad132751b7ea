use native.Mathlib.Omega.{arith}
use Prim.Native.Nat.{ℕ}
use lib.ListN.{length-replicate, get_or-replicate}
use Rattle.prepare.proofs.Reading.{laid_least}
use Rattle.prepare.proofs.Seeding.{activating_first, activating_done}
use Rattle.prepare.proofs.seeds.active.Goals as goal

pub loop-n-init : goal.loop-n-init
loop-n-init c = activating_first _ _ (length-replicate {A = ℕ} 26 0) (λ g hg. get_or-replicate {A = ℕ} 26 g 0 0 hg)

pub returns : goal.returns
returns c = activating_done c.loop-n.invariant (omega (arith, c.loop-n-test.false, c.loop-n.auto.n-end)) (laid_least _ c.requires)
