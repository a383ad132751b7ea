-- `link_row` meets its contract: where the row has something with an end, what it has with both where the transistor is kept, then cell after cell. Assumes nothing.
use Rattle.lists.proofs.Cases.{true_false}
use mathlib.Core.Bool.{true≢false}
use mathlib.Core.Path.{sym, ◌∙◌}
use native.Mathlib.Omega.{arith}
use Rattle.diagram.proofs.Add.{extends_trans}
use Rattle.working.proofs.Crowd.{crowded_from}
use Rattle.working.proofs.Grow.{grown_within, grown_entry}
use Rattle.working.proofs.Linking.{row_grown, row_stays}
use Rattle.working.proofs.link.link_row.Goals as goal

pub offset_bounds-row-a : goal.offset_bounds-row-a
offset_bounds-row-a c = omega (arith, c.requires.2)

pub bounds-row-a : goal.bounds-row-a
bounds-row-a c = c.requires.2

pub offset_bounds-row-b : goal.offset_bounds-row-b
offset_bounds-row-b c = omega (arith, c.requires.3)

pub bounds-row-b : goal.bounds-row-b
bounds-row-b c = c.requires.3

pub returns-then-xa-xb : goal.returns-then-xa-xb
returns-then-xa-xb c = ((λ z. row_stays c.requires.0 c.args.kept c.args.a c.args.b c.args.row c.args.first c.args.second c.requires.4 c.if-xa-xb.true), (λ z. absurd (true≢false (sym z))))

pub both-p-requires : goal.both-p-requires
both-p-requires c = (c.requires.0, c.requires.1, c.requires.4 _ c.requires.2)

pub shape_of-letter-then-stopped : goal.shape_of-letter-then-stopped
shape_of-letter-then-stopped c = omega (arith, c.both-p.auto.letter)

pub shape_of-low-then-stopped : goal.shape_of-low-then-stopped
shape_of-low-then-stopped c = omega (arith, c.both-p.auto.low)

pub shape_of-high-then-stopped : goal.shape_of-high-then-stopped
shape_of-high-then-stopped c = omega (arith, c.both-p.auto.high)

pub shape_of-index-then-stopped : goal.shape_of-index-then-stopped
shape_of-index-then-stopped c = omega (arith, c.both-p.auto.index)

pub returns-then-stopped : goal.returns-then-stopped
returns-then-stopped c = ((λ z. true_false _ (sym c.stopped.ensures ∙ c.if-stopped.true) z), (λ z. c.both-p.ensures.crowded (sym c.stopped.ensures ∙ c.if-stopped.true)))

pub both-q-requires : goal.both-q-requires
both-q-requires c = (c.both-p.ensures.opened (sym c.stopped.ensures ∙ c.if-stopped.false), grown_within c.requires.0 c.both-p.ensures (sym c.stopped.ensures ∙ c.if-stopped.false) c.requires.1, grown_within c.requires.0 c.both-p.ensures (sym c.stopped.ensures ∙ c.if-stopped.false) (c.requires.4 _ c.requires.3))

pub shape_of-letter-then-stopped-2 : goal.shape_of-letter-then-stopped-2
shape_of-letter-then-stopped-2 c = omega (arith, c.both-p.auto.letter, c.both-q.auto.letter)

pub shape_of-low-then-stopped-2 : goal.shape_of-low-then-stopped-2
shape_of-low-then-stopped-2 c = omega (arith, c.both-p.auto.low, c.both-q.auto.low)

pub shape_of-high-then-stopped-2 : goal.shape_of-high-then-stopped-2
shape_of-high-then-stopped-2 c = omega (arith, c.both-p.auto.high, c.both-q.auto.high)

pub shape_of-index-then-stopped-2 : goal.shape_of-index-then-stopped-2
shape_of-index-then-stopped-2 c = omega (arith, c.both-p.auto.index, c.both-q.auto.index)

pub returns-then-stopped-2 : goal.returns-then-stopped-2
returns-then-stopped-2 c = ((λ z. true_false _ (sym c.stopped-2.ensures ∙ c.if-stopped-2.true) z), (λ z. crowded_from (c.both-p.ensures.extends (sym c.stopped.ensures ∙ c.if-stopped.false)) (c.both-q.ensures.crowded (sym c.stopped-2.ensures ∙ c.if-stopped-2.true))))

pub link_cells-requires : goal.link_cells-requires
link_cells-requires c = (c.both-q.ensures.opened (sym c.stopped-2.ensures ∙ c.if-stopped-2.false), grown_within (c.both-p.ensures.opened (sym c.stopped.ensures ∙ c.if-stopped.false)) c.both-q.ensures (sym c.stopped-2.ensures ∙ c.if-stopped-2.false) (grown_entry c.requires.0 c.both-p.ensures (sym c.stopped.ensures ∙ c.if-stopped.false)), grown_entry (c.both-p.ensures.opened (sym c.stopped.ensures ∙ c.if-stopped.false)) c.both-q.ensures (sym c.stopped-2.ensures ∙ c.if-stopped-2.false), (λ m hm. grown_within (c.both-p.ensures.opened (sym c.stopped.ensures ∙ c.if-stopped.false)) c.both-q.ensures (sym c.stopped-2.ensures ∙ c.if-stopped-2.false) (grown_within c.requires.0 c.both-p.ensures (sym c.stopped.ensures ∙ c.if-stopped.false) (c.requires.4 m hm))), (λ m hm. grown_within (c.both-p.ensures.opened (sym c.stopped.ensures ∙ c.if-stopped.false)) c.both-q.ensures (sym c.stopped-2.ensures ∙ c.if-stopped-2.false) (grown_within c.requires.0 c.both-p.ensures (sym c.stopped.ensures ∙ c.if-stopped.false) (c.requires.5 m hm))), (λ m hm. grown_within (c.both-p.ensures.opened (sym c.stopped.ensures ∙ c.if-stopped.false)) c.both-q.ensures (sym c.stopped-2.ensures ∙ c.if-stopped-2.false) (grown_within c.requires.0 c.both-p.ensures (sym c.stopped.ensures ∙ c.if-stopped.false) (c.requires.6 m hm))))

pub shape_of-letter : goal.shape_of-letter
shape_of-letter c = omega (arith, c.both-p.auto.letter, c.both-q.auto.letter, c.link_cells.auto.letter)

pub shape_of-low : goal.shape_of-low
shape_of-low c = omega (arith, c.both-p.auto.low, c.both-q.auto.low, c.link_cells.auto.low)

pub shape_of-high : goal.shape_of-high
shape_of-high c = omega (arith, c.both-p.auto.high, c.both-q.auto.high, c.link_cells.auto.high)

pub shape_of-index : goal.shape_of-index
shape_of-index c = omega (arith, c.both-p.auto.index, c.both-q.auto.index, c.link_cells.auto.index)

pub returns : goal.returns
returns c = ((λ z. row_grown c.requires.0 _ _ _ c.args.row c.args.first c.args.second c.requires.4 c.requires.5 c.requires.6 c.both-p.ensures (sym c.stopped.ensures ∙ c.if-stopped.false) c.both-q.ensures (sym c.stopped-2.ensures ∙ c.if-stopped-2.false) c.requires.1 (c.requires.4 _ c.requires.2) (c.requires.4 _ c.requires.3) (c.link_cells.ensures.0 z)), (λ z. crowded_from (extends_trans (c.both-p.ensures.extends (sym c.stopped.ensures ∙ c.if-stopped.false)) (c.both-q.ensures.extends (sym c.stopped-2.ensures ∙ c.if-stopped-2.false))) (c.link_cells.ensures.1 z)))
