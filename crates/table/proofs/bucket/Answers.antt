-- The sum of three products of 32-bit numbers fits 64 bits.
use mathlib.Core.Path.{refl}
use native.Mathlib.Nat.{mod-lt}
use Rattle.table.specs.Index.{bucket}
use Rattle.table.proofs.bucket.Goals as goal

pub returns : goal.returns
unfolding bucket
returns c = (refl, mod-lt _ c.requires)
