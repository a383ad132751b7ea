-- `pick`: a remainder is small.
use native.Mathlib.Nat.{mod-lt}
use Rattle.cache.proofs.pick.Goals as goal

pub returns : goal.returns
returns c = mod-lt _ c.requires.0
