-- `load_arm` and `node_load` call each other; the allowance falls. The loop's invariant: what it has, and what the arms not yet passed make of it, is the node's delay walk.
use Prim.Native.Nat.{◌+◌, ◌*◌}
use Rattle.plain.specs.Leaf.{load_of}
use Rattle.plain.proofs.Walks.{LoadTurn}
use Rattle.plain.proofs.loads.+load_arm_node_load.Given as goal

abbrev pub decreases-load_arm : goal.decreases-load_arm
decreases-load_arm l = 2 * l.allowance + 1

abbrev pub decreases-node_load : goal.decreases-node_load
decreases-node_load l = 2 * l.allowance

abbrev pub invariant-node_load-loop-k : goal.invariant-node_load-loop-k
invariant-node_load-loop-k l = LoadTurn l.net l.leaf l.allowance l.sharing l.new l.from l.n l.k (load_of l.load)
