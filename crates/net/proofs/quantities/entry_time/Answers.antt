-- `quantities::entry_time` meets its contract. Assumes nothing.
use mathlib.Core.Path.{refl}
use native.Mathlib.Omega.{arith}
use Rattle.net.proofs.quantities.entry_time.Goals as goal

pub returns : goal.returns
returns c = (refl, omega (arith, (c.requires.0.within.entry c.args.i c.requires.1).time_most, c.requires.0.within.horizon))
