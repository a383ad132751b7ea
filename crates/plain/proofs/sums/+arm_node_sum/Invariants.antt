-- `arm` and `node_sum` call each other; the allowance falls. The loop's invariant: what it has, and what the arms not yet passed make of it, is the node's sum.
use Prim.Native.Nat.{◌+◌, ◌*◌}
use Rattle.plain.specs.Leaf.{sum_of}
use Rattle.plain.proofs.Walks.{SumTurn}
use Rattle.plain.proofs.sums.+arm_node_sum.Given as goal

abbrev pub decreases-arm : goal.decreases-arm
decreases-arm l = 2 * l.allowance + 1

abbrev pub decreases-node_sum : goal.decreases-node_sum
decreases-node_sum l = 2 * l.allowance

abbrev pub invariant-node_sum-loop-k : goal.invariant-node_sum-loop-k
invariant-node_sum-loop-k l = SumTurn l.net l.leaf l.allowance l.from l.n l.k (sum_of l.sum)
