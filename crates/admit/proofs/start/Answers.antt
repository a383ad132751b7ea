-- `start`: what was stored is judged; where there is no room, each pattern is tried.
use mathlib.Core.Path.{sym, ◌∙◌}
use native.Mathlib.Omega.{arith}
use Rattle.admit.proofs.Whole.{start_crowded, start_legible, start_reached}
use Rattle.admit.proofs.start.Goals as goal

pub start-next-requires : goal.start-next-requires
start-next-requires c = (c.requires.0, c.requires.1, c.requires.2)

pub start_within-requires : goal.start_within-requires
start_within-requires c = c.requires.0

pub shape_of-letter-then-stopped : goal.shape_of-letter-then-stopped
shape_of-letter-then-stopped c = omega (arith, c.start-next.auto.letter)

pub shape_of-low-then-stopped : goal.shape_of-low-then-stopped
shape_of-low-then-stopped c = omega (arith, c.start-next.auto.low)

pub shape_of-high-then-stopped : goal.shape_of-high-then-stopped
shape_of-high-then-stopped c = omega (arith, c.start-next.auto.high)

pub shape_of-index-then-stopped : goal.shape_of-index-then-stopped
shape_of-index-then-stopped c = omega (arith, c.start-next.auto.index)

pub shape_of-wletter-then-stopped : goal.shape_of-wletter-then-stopped
shape_of-wletter-then-stopped c = omega (arith, c.start-next.auto.wletter)

pub shape_of-wlow-then-stopped : goal.shape_of-wlow-then-stopped
shape_of-wlow-then-stopped c = omega (arith, c.start-next.auto.wlow)

pub shape_of-whigh-then-stopped : goal.shape_of-whigh-then-stopped
shape_of-whigh-then-stopped c = omega (arith, c.start-next.auto.whigh)

pub shape_of-windex-then-stopped : goal.shape_of-windex-then-stopped
shape_of-windex-then-stopped c = omega (arith, c.start-next.auto.windex)

pub returns-then-stopped : goal.returns-then-stopped
returns-then-stopped c = start_crowded c.requires.0 c.requires.1 c.start-next.ensures (omega (arith, c.start-next.auto.letter)) (sym c.stopped.ensures ∙ c.if-stopped.true) c.start_within.ensures c.crowded.ensures

pub run_sound-requires : goal.run_sound-requires
run_sound-requires c = (c.requires.0, start_legible c.requires.0 c.requires.1 c.start-next.ensures (omega (arith, c.start-next.auto.letter)) (sym c.stopped.ensures ∙ c.if-stopped.false))

pub shape_of-letter : goal.shape_of-letter
shape_of-letter c = omega (arith, c.start-next.auto.letter)

pub shape_of-low : goal.shape_of-low
shape_of-low c = omega (arith, c.start-next.auto.low)

pub shape_of-high : goal.shape_of-high
shape_of-high c = omega (arith, c.start-next.auto.high)

pub shape_of-index : goal.shape_of-index
shape_of-index c = omega (arith, c.start-next.auto.index)

pub shape_of-wletter : goal.shape_of-wletter
shape_of-wletter c = omega (arith, c.start-next.auto.wletter)

pub shape_of-wlow : goal.shape_of-wlow
shape_of-wlow c = omega (arith, c.start-next.auto.wlow)

pub shape_of-whigh : goal.shape_of-whigh
shape_of-whigh c = omega (arith, c.start-next.auto.whigh)

pub shape_of-windex : goal.shape_of-windex
shape_of-windex c = omega (arith, c.start-next.auto.windex)

pub returns : goal.returns
returns c = start_reached c.requires.0 c.requires.1 c.start-next.ensures (omega (arith, c.start-next.auto.letter)) (sym c.stopped.ensures ∙ c.if-stopped.false) c.run_sound.ensures c.judged.ensures
