-- The invariant: the rows so far are legal, differ, and are in the index.
use Rattle.table.proofs.Judge.{Filling}
use Rattle.table.proofs.fill.Given as goal

abbrev pub invariant-loop-i : goal.invariant-loop-i
invariant-loop-i l = Filling l.letters l.letter l.low l.high l.i l.index
