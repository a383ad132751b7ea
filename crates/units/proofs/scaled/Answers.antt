-- `scaled` rounds up.
use Prim.Native.Nat.{◌*◌}
use Rattle.units.proofs.Rounding.{div_ceil_same}
use Rattle.units.proofs.scaled.Goals as goal

pub returns : goal.returns
returns c = let e = div_ceil_same c.requires (c.from.result * c.from-2.result) in cc
