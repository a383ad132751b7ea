-- `piece`: the nodes before `head` have all arms crossed. There are no more nodes than marks.
use Prim.Native.Nat.{◌-◌}
use Rattle.descent.proofs.Search.{Spread}
use Rattle.descent.proofs.piece.piece.Given as goal

abbrev pub invariant-loop-head : goal.invariant-loop-head
invariant-loop-head l = Spread l.net l.roots l.n l.head l.marks l.found l.count

abbrev pub decreases-loop-head : goal.decreases-loop-head
decreases-loop-head l = 26 - l.head
