-- `values_after`. The loop's invariant: the nodes before n have their values after T.
use Prim.Native.Nat.{ℕ}
use lib.ListN.{get_or}
use Rattle.net.specs.Net.{net_circuit}
use Rattle.plain.specs.Pattern.{Filled, arrived_at}
use Rattle.plain.proofs.arrive.values_after.Given as goal

abbrev pub invariant-loop-n : goal.invariant-loop-n
invariant-loop-n l =
    Filled 0 1 (λ (m : ℕ). arrived_at (net_circuit l.net) l.time l.p m (get_or l.before m 0) (get_or l.pending m 0)) l.n l.values
