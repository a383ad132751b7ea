-- `link_cell` meets its contract: by way of b and a, then of a and b. Assumes nothing.
use mathlib.Core.Path.{sym, ◌∙◌}
use native.Mathlib.Omega.{arith}
use Rattle.working.proofs.Grow.{grown_full, grown_within, grown_entry}
use Rattle.working.proofs.Linking.{cell_grown}
use Rattle.working.proofs.link.link_cell.Goals as goal

pub also_both-m-requires : goal.also_both-m-requires
also_both-m-requires c = (c.requires.0, c.requires.1, c.requires.4, c.requires.5)

pub shape_of-letter-then-stopped : goal.shape_of-letter-then-stopped
shape_of-letter-then-stopped c = omega (arith, c.also_both-m.auto.letter)

pub shape_of-low-then-stopped : goal.shape_of-low-then-stopped
shape_of-low-then-stopped c = omega (arith, c.also_both-m.auto.low)

pub shape_of-high-then-stopped : goal.shape_of-high-then-stopped
shape_of-high-then-stopped c = omega (arith, c.also_both-m.auto.high)

pub shape_of-index-then-stopped : goal.shape_of-index-then-stopped
shape_of-index-then-stopped c = omega (arith, c.also_both-m.auto.index)

pub returns-then-stopped : goal.returns-then-stopped
returns-then-stopped c = grown_full c.also_both-m.ensures (sym c.stopped.ensures ∙ c.if-stopped.true)

pub also_both-requires : goal.also_both-requires
also_both-requires c = (c.also_both-m.ensures.opened (sym c.stopped.ensures ∙ c.if-stopped.false), grown_entry c.requires.0 c.also_both-m.ensures (sym c.stopped.ensures ∙ c.if-stopped.false), grown_within c.requires.0 c.also_both-m.ensures (sym c.stopped.ensures ∙ c.if-stopped.false) c.requires.2, grown_within c.requires.0 c.also_both-m.ensures (sym c.stopped.ensures ∙ c.if-stopped.false) c.requires.3)

pub shape_of-letter : goal.shape_of-letter
shape_of-letter c = omega (arith, c.also_both-m.auto.letter, c.also_both.auto.letter)

pub shape_of-low : goal.shape_of-low
shape_of-low c = omega (arith, c.also_both-m.auto.low, c.also_both.auto.low)

pub shape_of-high : goal.shape_of-high
shape_of-high c = omega (arith, c.also_both-m.auto.high, c.also_both.auto.high)

pub shape_of-index : goal.shape_of-index
shape_of-index c = omega (arith, c.also_both-m.auto.index, c.also_both.auto.index)

pub returns : goal.returns
returns c = cell_grown c.requires.0 c.also_both-m.ensures (sym c.stopped.ensures ∙ c.if-stopped.false) c.requires.2 c.requires.3 c.also_both.ensures
