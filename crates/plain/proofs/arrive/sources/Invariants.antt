-- `sources`. The loop's invariant: the nodes before n have their sources.
use Prim.Native.Nat.{ℕ}
use Rattle.format.specs.Circuit.{node_record}
use Rattle.rules.specs.Arrive.{source_at}
use Rattle.net.specs.Net.{net_circuit}
use Rattle.plain.specs.Pattern.{Filled}
use Rattle.plain.proofs.arrive.sources.Given as goal

abbrev pub invariant-loop-n : goal.invariant-loop-n
invariant-loop-n l = Filled 0 1 (λ (m : ℕ). source_at (node_record (net_circuit l.net) m).start l.p) l.n l.values
