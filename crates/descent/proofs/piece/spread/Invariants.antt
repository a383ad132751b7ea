-- `spread`: the arms before k are crossed.
use Prim.Native.Nat.{ℕ, ◌<◌}
use lib.ListN.{get_or}
use Rattle.net.specs.Net.{net_arms}
use Rattle.descent.specs.Piece.{Crossed, Searched, StaysIn}
use Rattle.descent.proofs.piece.spread.Given as goal

abbrev pub invariant-loop-k : goal.invariant-loop-k
invariant-loop-k l = Searched l.net l.initial.marks l.initial.found l.count l.marks l.found l.total × ((j : ℕ) → j < l.k → Crossed l.net l.roots l.marks l.x (get_or (net_arms l.net l.x) j 0)) × StaysIn l.net l.roots l.initial.marks l.marks
