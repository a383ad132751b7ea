-- `sources` meets its contract: record after record. Assumes nothing.
use Prim.Native.Nat.{ℕ}
use lib.ListN.{length}
use Rattle.rules.specs.State.{value_at}
use Rattle.rules.specs.Step.{started}
use Rattle.net.specs.Net.{net_circuit}
use Rattle.values.proofs.Series.{Storing}
use Rattle.values.proofs.source.sources.Given as goal

abbrev pub invariant-loop-i : goal.invariant-loop-i
invariant-loop-i l = Storing (length (net_circuit l.net).nodes) l.k (λ (n : ℕ) (p : ℕ). value_at (started (net_circuit l.net) p) n) l.initial.letter l.initial.low l.initial.high l.initial.index l.used l.letter l.low l.high l.index l.now l.out l.i
