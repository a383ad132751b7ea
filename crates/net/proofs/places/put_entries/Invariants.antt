-- `places::put_entries` meets its contract. The loop's invariant: the first i records stand in their places. Assumes nothing.
use mathlib.Core.Path.{◌≡◌}
use lib.ListN.{length}
use Rattle.format.specs.Circuit.{no_entry}
use Rattle.net.specs.Net.{net_length, net_entry}
use Rattle.net.specs.Written.{Put}
use Rattle.net.proofs.places.put_entries.Given as goal

abbrev pub invariant-loop-i : goal.invariant-loop-i
invariant-loop-i l = (length l.net ≡ net_length) × Put 400 592 net_entry no_entry l.schedule l.i l.initial.net l.net
