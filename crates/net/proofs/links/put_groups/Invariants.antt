-- `links::put_groups` meets its contract. The loop's invariant: the labels are those after the first i transistors. Assumes nothing.
use Rattle.net.proofs.Joins.{Grouping}
use Rattle.net.proofs.links.put_groups.Given as goal

abbrev pub invariant-loop-i : goal.invariant-loop-i
invariant-loop-i l = Grouping l.initial.net l.count l.i l.net
