-- `sum_at` gives the walk one of allowance for each node record.
use mathlib.Core.Path.{subst}
use mathlib.Core.Option.{none}
use Prim.Native.Nat.{ℕ}
use Rattle.plain.specs.Leaf.{leaf_sum, Gives}
use Rattle.plain.proofs.change.sum_at.Goals as goal

pub returns : goal.returns
returns c = subst (λ (a : ℕ). Gives c.node_sum.result (leaf_sum c.args.net.now c.args.leaf.now a none c.args.n)) c.read-nodes.ensures c.node_sum.ensures
