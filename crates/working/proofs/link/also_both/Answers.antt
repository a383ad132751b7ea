-- `also_both` meets its contract: nothing to do where an entry is 0. Assumes nothing.
use mathlib.Core.Path.{sym, ◌∙◌}
use native.Mathlib.Omega.{arith}
use Rattle.working.proofs.Grow.{grown_full, grown_within, grown_entry}
use Rattle.working.proofs.Linking.{also_first, also_second, also_grown}
use Rattle.working.proofs.link.also_both.Goals as goal

pub returns-then-a-eq0 : goal.returns-then-a-eq0
returns-then-a-eq0 c = also_first c.requires.0 _ _ _ c.requires.1 c.if-a-eq0.true

pub returns-then-b-eq0 : goal.returns-then-b-eq0
returns-then-b-eq0 c = also_second c.requires.0 _ _ _ c.requires.1 c.if-b-eq0.true

pub both-m-requires : goal.both-m-requires
both-m-requires c = (c.requires.0, c.requires.2, c.requires.3)

pub shape_of-letter-then-stopped : goal.shape_of-letter-then-stopped
shape_of-letter-then-stopped c = omega (arith, c.both-m.auto.letter)

pub shape_of-low-then-stopped : goal.shape_of-low-then-stopped
shape_of-low-then-stopped c = omega (arith, c.both-m.auto.low)

pub shape_of-high-then-stopped : goal.shape_of-high-then-stopped
shape_of-high-then-stopped c = omega (arith, c.both-m.auto.high)

pub shape_of-index-then-stopped : goal.shape_of-index-then-stopped
shape_of-index-then-stopped c = omega (arith, c.both-m.auto.index)

pub returns-then-stopped : goal.returns-then-stopped
returns-then-stopped c = grown_full c.both-m.ensures (sym c.stopped.ensures ∙ c.if-stopped.true)

pub either-requires : goal.either-requires
either-requires c = (c.both-m.ensures.opened (sym c.stopped.ensures ∙ c.if-stopped.false), grown_entry c.requires.0 c.both-m.ensures (sym c.stopped.ensures ∙ c.if-stopped.false), grown_within c.requires.0 c.both-m.ensures (sym c.stopped.ensures ∙ c.if-stopped.false) c.requires.1)

pub shape_of-letter : goal.shape_of-letter
shape_of-letter c = omega (arith, c.both-m.auto.letter, c.either.auto.letter)

pub shape_of-low : goal.shape_of-low
shape_of-low c = omega (arith, c.both-m.auto.low, c.either.auto.low)

pub shape_of-high : goal.shape_of-high
shape_of-high c = omega (arith, c.both-m.auto.high, c.either.auto.high)

pub shape_of-index : goal.shape_of-index
shape_of-index c = omega (arith, c.both-m.auto.index, c.either.auto.index)

pub returns : goal.returns
returns c = also_grown c.requires.0 _ _ _ c.requires.1 c.both-m.ensures (sym c.stopped.ensures ∙ c.if-stopped.false) c.either.ensures
