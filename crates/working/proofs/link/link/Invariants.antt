-- `link` meets its contract: row after row, with the old rows of the ends. Assumes nothing.
use Rattle.diagram.specs.Table.{number_at}
use Rattle.diagram.specs.Held.{held}
use Rattle.working.specs.Many.{cell, linked_number}
use Rattle.working.proofs.Fill.{RowsFilling}
use Rattle.working.proofs.link.link.Given as goal

abbrev pub invariant-loop-x : goal.invariant-loop-x
invariant-loop-x l = RowsFilling l.k (held l.initial.letter l.initial.low l.initial.high l.initial.used) (λ x y p. linked_number (number_at l.k (held l.initial.letter l.initial.low l.initial.high l.initial.used) l.kept p) (number_at l.k (held l.initial.letter l.initial.low l.initial.high l.initial.used) (cell l.initial.out x y) p) (number_at l.k (held l.initial.letter l.initial.low l.initial.high l.initial.used) (cell l.initial.out x l.a) p) (number_at l.k (held l.initial.letter l.initial.low l.initial.high l.initial.used) (cell l.initial.out l.b y) p) (number_at l.k (held l.initial.letter l.initial.low l.initial.high l.initial.used) (cell l.initial.out x l.b) p) (number_at l.k (held l.initial.letter l.initial.low l.initial.high l.initial.used) (cell l.initial.out l.a y) p)) (λ x y p. number_at l.k (held l.initial.letter l.initial.low l.initial.high l.initial.used) (cell l.initial.out x y) p) l.initial.letter l.initial.low l.initial.high l.initial.index l.letter l.low l.high l.index l.used l.out l.x
