-- The invariant: the search has come down to an entry of the bucket, and what is sought is not from there on.
use Rattle.diagram.specs.Table.{branch}
use Rattle.diagram.specs.Held.{entries}
use Rattle.table.proofs.Search.{Seeking}
use Rattle.table.proofs.seek.Given as goal

abbrev pub invariant-loop-e : goal.invariant-loop-e
invariant-loop-e l = Seeking l.half (entries l.letter l.low l.high) l.used (branch l.k l.a l.b) l.e

abbrev pub decreases-loop-e : goal.decreases-loop-e
decreases-loop-e l = l.e
