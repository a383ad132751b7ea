-- The invariant: the bits gathered are 0 exactly where the rows from the place on, as far as the loop has come, are blank.
use Rattle.diagram.specs.Held.{entries}
use Rattle.table.proofs.Blanks.{Gathered}
use Rattle.table.proofs.blank_from.Given as goal

abbrev pub invariant-loop-i : goal.invariant-loop-i
invariant-loop-i l = Gathered (entries l.letter l.low l.high) l.from l.i l.bits
