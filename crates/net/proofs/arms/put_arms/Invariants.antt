-- `arms::put_arms` meets its contract. The loop's invariant: every node's arms among the first i transistors are listed. Assumes nothing.
use Prim.Native.Nat.{◌≤◌}
use mathlib.Core.Path.{◌≡◌}
use lib.ListN.{length}
use Rattle.net.specs.Net.{net_length, net_circuit}
use Rattle.net.specs.Written.{Armed}
use Rattle.net.proofs.arms.put_arms.Given as goal

abbrev pub invariant-loop-i : goal.invariant-loop-i
invariant-loop-i l = (l.count ≤ 64) × (length l.net ≡ net_length) × Armed (net_circuit l.initial.net).transistors l.i l.initial.net l.net
