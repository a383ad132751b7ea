-- `labels::start` meets its contract. The loop's invariant: the first n labels are written. Assumes nothing.
use Prim.Native.Nat.{ℕ}
use Rattle.net.specs.Written.{Row}
use Rattle.net.proofs.labels.start.Given as goal

abbrev pub invariant-loop-n : goal.invariant-loop-n
invariant-loop-n l = Row l.place l.n (λ (i : ℕ). i) l.initial.column l.column
