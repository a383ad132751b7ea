-- `chain` meets its contract. Invariant: the first k records are those met, and the rest of the chain decides.
use Rattle.records.proofs.Linked.{Walked}
use Rattle.records.proofs.chains.chain.Given as goal

abbrev pub invariant-loop-k : goal.invariant-loop-k
invariant-loop-k l =
    Walked l.file l.count l.kind l.n l.first l.records l.r l.k
