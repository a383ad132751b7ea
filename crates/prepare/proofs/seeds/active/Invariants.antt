-- `active` meets its contract: node after node. Assumes nothing.
use Rattle.net.specs.Net.{net_circuit}
use Rattle.prepare.proofs.Seeding.{Activating}
use Rattle.prepare.proofs.seeds.active.Given as goal

abbrev pub invariant-loop-n : goal.invariant-loop-n
invariant-loop-n l = Activating (net_circuit l.net) l.seeds l.n l.out
