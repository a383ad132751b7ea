-- `places::put_transistors` meets its contract. The loop's invariant: the first i records stand in their places. Assumes nothing.
use mathlib.Core.Path.{◌≡◌}
use lib.ListN.{length}
use Rattle.format.specs.Circuit.{no_transistor}
use Rattle.net.specs.Net.{net_length, net_transistor}
use Rattle.net.specs.Written.{Put}
use Rattle.net.proofs.places.put_transistors.Given as goal

abbrev pub invariant-loop-i : goal.invariant-loop-i
invariant-loop-i l = (length l.net ≡ net_length) × Put 80 400 net_transistor no_transistor l.transistors l.i l.initial.net l.net
