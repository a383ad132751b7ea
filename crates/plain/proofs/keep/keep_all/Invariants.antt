-- `keep::keep_all` meets its contract. The loop's invariant: the first i transistors have their flags. Assumes nothing.
use Rattle.net.specs.Net.{net_circuit}
use Rattle.plain.specs.Leaves.{KeptTo}
use Rattle.plain.proofs.keep.keep_all.Given as goal

abbrev pub invariant-loop-i : goal.invariant-loop-i
invariant-loop-i l = KeptTo (net_circuit l.net) l.values l.i l.initial.leaf l.leaf l.labels
