-- `labels::relabel` meets its contract. The loop's invariant: the first n labels are exchanged. Assumes nothing.
use Rattle.net.specs.Written.{Row, relabelled}
use Rattle.net.proofs.labels.relabel.Given as goal

abbrev pub invariant-loop-n : goal.invariant-loop-n
invariant-loop-n l = Row l.place l.n (relabelled l.initial.column l.place l.old l.new) l.initial.column l.column
