-- `changed_all` meets its contract: place after place, with one cache. Assumes nothing.
use mathlib.Core.Path.{◌≡◌}
use mathlib.Core.Bool.{not}
use lib.ListN.{length, get_or}
use lib.Dec.{eqb}
use Rattle.diagram.specs.Table.{number_at}
use Rattle.diagram.specs.Held.{held}
use Rattle.working.specs.Grown.{bit}
use Rattle.working.specs.Known.{Known, differing}
use Rattle.working.proofs.Fill.{Filling}
use Rattle.working.proofs.many.changed_all.Given as goal

abbrev pub invariant-loop-n : goal.invariant-loop-n
invariant-loop-n l = Filling 26 l.k (held l.initial.letter l.initial.low l.initial.high l.used) (λ m p. bit (not (eqb (number_at l.k (held l.tletter l.tlow l.thigh l.tused) (get_or l.before m 0) p) (number_at l.k (held l.tletter l.tlow l.thigh l.tused) (get_or l.after m 0) p)))) (λ m p. 0) l.initial.letter l.initial.low l.initial.high l.initial.index l.letter l.low l.high l.index l.now l.out l.n × Known l.k (held l.letter l.low l.high l.now) (differing l.k (held l.tletter l.tlow l.thigh l.tused)) l.cache × (length l.cache ≡ 512)
