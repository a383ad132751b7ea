-- `quantities::capacitance` meets its contract. Assumes nothing.
use mathlib.Core.Path.{sym, ap}
use Prim.Native.Nat.{◌-◌}
use native.Mathlib.Omega.{arith}
use Rattle.format.specs.declared.Node.{Node}
use Rattle.net.proofs.Laying.{node_at_lem}
use Rattle.net.proofs.quantities.capacitance.Goals as goal

pub returns : goal.returns
returns c = sym (ap (λ (x : Node). x.capacitance) (node_at_lem c.args.net.now (c.args.n - 2) (omega arith)))
