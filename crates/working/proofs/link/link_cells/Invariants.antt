-- `link_cells` meets its contract: cell after cell. Assumes nothing.
use lib.ListN.{get_or}
use Rattle.diagram.specs.Table.{number_at}
use Rattle.diagram.specs.Held.{held}
use Rattle.working.specs.Many.{also}
use Rattle.working.proofs.Fill.{Filling}
use Rattle.working.proofs.link.link_cells.Given as goal

abbrev pub invariant-loop-y : goal.invariant-loop-y
invariant-loop-y l = Filling 24 l.k (held l.initial.letter l.initial.low l.initial.high l.used) (λ m p. also (also (number_at l.k (held l.initial.letter l.initial.low l.initial.high l.used) (get_or l.row m 0) p) (number_at l.k (held l.initial.letter l.initial.low l.initial.high l.used) l.xb p) (number_at l.k (held l.initial.letter l.initial.low l.initial.high l.used) (get_or l.a m 0) p)) (number_at l.k (held l.initial.letter l.initial.low l.initial.high l.used) l.xa p) (number_at l.k (held l.initial.letter l.initial.low l.initial.high l.used) (get_or l.b m 0) p)) (λ m p. number_at l.k (held l.initial.letter l.initial.low l.initial.high l.used) (get_or l.row m 0) p) l.initial.letter l.initial.low l.initial.high l.initial.index l.letter l.low l.high l.index l.now l.out l.y
