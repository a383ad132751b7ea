-- `every_node` meets its contract: node after node. Assumes nothing.
use Rattle.net.specs.Net.{net_circuit}
use Rattle.prepare.proofs.Seeding.{Marking}
use Rattle.prepare.proofs.seeds.every_node.Given as goal

abbrev pub invariant-loop-n : goal.invariant-loop-n
invariant-loop-n l = Marking (net_circuit l.net) l.only l.n l.out
