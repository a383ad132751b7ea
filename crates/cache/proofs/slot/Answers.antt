-- `slot`: four words for each slot.
use mathlib.Core.Path.{refl}
use native.Mathlib.Omega.{arith}
use Rattle.cache.proofs.slot.Goals as goal

pub returns : goal.returns
returns c = record { slot = _; first = refl; within = omega (arith, c.pick-s.ensures) }
