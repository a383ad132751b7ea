-- `quantities::horizon` meets its contract. Assumes nothing.
use mathlib.Core.Path.{refl}
use Rattle.net.specs.Net.{net_circuit}
use Rattle.net.proofs.quantities.horizon.Goals as goal

pub returns : goal.returns
unfolding net_circuit
returns c = (refl, c.requires.within.horizon)
