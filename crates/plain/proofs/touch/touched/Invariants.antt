-- `touch::touched` meets its contract. The loop's invariant: what is asked of all transistors is what is asked from transistor i on. Assumes nothing.
use Rattle.net.specs.Net.{net_circuit}
use Rattle.plain.proofs.Pieces.{touches, SomeFrom}
use Rattle.plain.proofs.touch.touched.Given as goal

abbrev pub invariant-loop-i : goal.invariant-loop-i
invariant-loop-i l = SomeFrom (touches (net_circuit l.net) l.labels l.before l.after l.n) (net_circuit l.net).transistors l.i
