-- `arrive` meets its contract: record after record, each read in the table that the records before it left. Assumes nothing.
use lib.ListN.{length}
use Rattle.net.specs.Net.{letters_place, at, net_circuit}
use Rattle.values.proofs.Arriving.{arrivals}
use Rattle.values.proofs.Series.{Storing}
use Rattle.diagram.specs.Held.{held}
use Rattle.values.proofs.arrive.arrive.Given as goal

abbrev pub invariant-loop-i : goal.invariant-loop-i
invariant-loop-i l = Storing (length (net_circuit l.net).nodes) (at l.net letters_place) (arrivals (net_circuit l.net) (held l.initial.letter l.initial.low l.initial.high l.initial.now) l.initial.now l.values l.changes l.time) l.initial.letter l.initial.low l.initial.high l.initial.index l.initial.now l.letter l.low l.high l.index l.now l.out l.i
