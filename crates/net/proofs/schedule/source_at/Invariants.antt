-- `source_at` meets its contract. The loop's invariant: no entry before i is for the node at that time. Assumes nothing.
use Rattle.net.proofs.Due.{NoneFor}
use Rattle.net.proofs.schedule.source_at.Given as goal

abbrev pub invariant-loop-i : goal.invariant-loop-i
invariant-loop-i l = NoneFor l.net l.time l.n l.i
