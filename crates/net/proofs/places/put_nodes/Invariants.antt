-- `places::put_nodes` meets its contract. The loop's invariant: the first i records stand in their places. Assumes nothing.
use mathlib.Core.Path.{◌≡◌}
use lib.ListN.{length}
use Rattle.format.specs.Circuit.{no_node}
use Rattle.net.specs.Net.{net_length, net_node}
use Rattle.net.specs.Written.{Put}
use Rattle.net.proofs.places.put_nodes.Given as goal

abbrev pub invariant-loop-i : goal.invariant-loop-i
invariant-loop-i l = (length l.net ≡ net_length) × Put 8 80 net_node no_node l.nodes l.i l.initial.net l.net
