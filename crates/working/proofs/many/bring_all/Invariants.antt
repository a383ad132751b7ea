-- `bring_all` meets its contract: place after place, with one cache. Assumes nothing.
use mathlib.Core.Path.{◌≡◌}
use lib.ListN.{length, get_or}
use Rattle.diagram.specs.Table.{number_at}
use Rattle.diagram.specs.Held.{held}
use Rattle.working.specs.Known.{Known, brought}
use Rattle.working.proofs.Fill.{Filling}
use Rattle.working.proofs.many.bring_all.Given as goal

abbrev pub invariant-loop-n : goal.invariant-loop-n
invariant-loop-n l = Filling 26 l.k (held l.initial.letter l.initial.low l.initial.high l.used) (λ m p. number_at l.k (held l.tletter l.tlow l.thigh l.tused) (get_or l.entries m 0) p) (λ m p. 0) l.initial.letter l.initial.low l.initial.high l.initial.index l.letter l.low l.high l.index l.now l.out l.n × Known l.k (held l.letter l.low l.high l.now) (brought l.k (held l.tletter l.tlow l.thigh l.tused)) l.cache × (length l.cache ≡ 512)
