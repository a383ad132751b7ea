-- `seed_nodes` meets its contract: node after node. Assumes nothing.
use Rattle.diagram.specs.Held.{held}
use Rattle.net.specs.Net.{net_circuit}
use Rattle.prepare.proofs.Seeding.{Seeding}
use Rattle.prepare.proofs.seeds.seed_nodes.Given as goal

abbrev pub invariant-loop-n : goal.invariant-loop-n
invariant-loop-n l = Seeding (net_circuit l.net) l.only l.k (held l.initial.letter l.initial.low l.initial.high l.used) l.changed l.initial.letter l.initial.low l.initial.high l.initial.index l.letter l.low l.high l.index l.now l.out l.n
