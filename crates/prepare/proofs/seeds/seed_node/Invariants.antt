-- `seed_node` meets its contract: arm after arm. Assumes nothing.
use Rattle.diagram.specs.Held.{held}
use Rattle.net.specs.Net.{net_circuit, arms_of}
use Rattle.prepare.proofs.Seeding.{Arming}
use Rattle.prepare.proofs.seeds.seed_node.Given as goal

abbrev pub invariant-loop-j : goal.invariant-loop-j
invariant-loop-j l = Arming (net_circuit l.net) (arms_of (net_circuit l.net) l.n) l.k (held l.initial.letter l.initial.low l.initial.high l.used) l.changed l.initial.letter l.initial.low l.initial.high l.initial.index l.letter l.low l.high l.index l.now l.z l.j
