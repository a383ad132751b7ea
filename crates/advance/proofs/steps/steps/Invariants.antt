-- `steps` meets its contract. The loop's invariant: what is left to run from here is what was asked at first, and the column has every
-- entry's least number (`Going`); the lengths are as they were. The measure is what is left of the horizon. Assumes nothing.
use mathlib.Core.Path.{◌≡◌}
use Prim.Native.Nat.{◌-◌}
use lib.ListN.{length}
use Rattle.table.specs.Holds.{Lent}
use Rattle.net.specs.Net.{horizon_place, at as at_place}
use Rattle.advance.proofs.Moving.{Going}
use Rattle.advance.proofs.steps.steps.Given as goal

abbrev pub invariant-loop-time : goal.invariant-loop-time
invariant-loop-time l =
    Going l.net l.until l.initial.letter l.initial.low l.initial.high l.initial.now l.letter l.low l.high l.index l.now l.time l.least
    × Lent l.wletter l.wlow l.whigh l.windex
    × (length l.letter ≡ length l.initial.letter)
    × (length l.low ≡ length l.initial.low)
    × (length l.high ≡ length l.initial.high)
    × (length l.index ≡ length l.initial.index)
    × (length l.wletter ≡ length l.initial.wletter)
    × (length l.wlow ≡ length l.initial.wlow)
    × (length l.whigh ≡ length l.initial.whigh)
    × (length l.windex ≡ length l.initial.windex)

abbrev pub decreases-loop-time : goal.decreases-loop-time
decreases-loop-time l = at_place l.net horizon_place - l.now.time
