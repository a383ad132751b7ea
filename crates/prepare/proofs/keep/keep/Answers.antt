-- `keep` meets its contract: of an active group, conducting, not joined. Assumes nothing.
use native.Mathlib.Omega.{arith}
use mathlib.Core.Path.{sym, ◌∙◌}
use Prim.Native.Nat.{◌-◌}
use lib.ListN.{get_or}
use borrow.Author.Tests.{not-true, not-false}
use Rattle.working.specs.Many.{cell}
use Rattle.rules.specs.Label.{between_inner}
use Rattle.net.specs.Net.{net_transistor, net_circuit}
use Rattle.working.proofs.Grow.{grown_full, grown_then, grown_within, grown_entry}
use Rattle.prepare.proofs.Reading.{laid_few, laid_first, laid_second, laid_between}
use Rattle.prepare.proofs.Keeping.{keep_nowhere, keep_driven, keep_between}
use Rattle.prepare.proofs.keep.keep.Goals as goal

pub group_of-g-requires : goal.group_of-g-requires
group_of-g-requires c = c.requires.laid

pub offset_bounds-active-g : goal.offset_bounds-active-g
offset_bounds-active-g c = omega (arith, c.group_of-g.ensures.1)

pub bounds-active-g : goal.bounds-active-g
bounds-active-g c = c.group_of-g.ensures.1

pub returns-then-e-eq0 : goal.returns-then-e-eq0
returns-then-e-eq0 c = rw (← c.group_of-g.ensures.0) (keep_nowhere c.requires.fact.0 (net_transistor c.args.net.now c.args.i).polarity (between_inner (net_circuit c.args.net.now) (net_transistor c.args.net.now c.args.i)) _ (get_or c.args.values (net_transistor c.args.net.now c.args.i).gate 0) (cell c.args.joined.now ((net_transistor c.args.net.now c.args.i).first - 2) ((net_transistor c.args.net.now c.args.i).second - 2)) c.if-e-eq0.true)

pub conducts-p-requires : goal.conducts-p-requires
conducts-p-requires c = record { laid = c.requires.laid; fact = (c.requires.fact.0, c.requires.fact.1) }

pub shape_of-letter-then-stopped : goal.shape_of-letter-then-stopped
shape_of-letter-then-stopped c = omega (arith, c.conducts-p.auto.letter)

pub shape_of-low-then-stopped : goal.shape_of-low-then-stopped
shape_of-low-then-stopped c = omega (arith, c.conducts-p.auto.low)

pub shape_of-high-then-stopped : goal.shape_of-high-then-stopped
shape_of-high-then-stopped c = omega (arith, c.conducts-p.auto.high)

pub shape_of-index-then-stopped : goal.shape_of-index-then-stopped
shape_of-index-then-stopped c = omega (arith, c.conducts-p.auto.index)

pub returns-then-stopped : goal.returns-then-stopped
returns-then-stopped c = grown_full c.conducts-p.ensures (sym c.stopped.ensures ∙ c.if-stopped.true)

pub both-q-requires : goal.both-q-requires
both-q-requires c = (c.conducts-p.ensures.opened (sym c.stopped.ensures ∙ c.if-stopped.false), grown_within c.requires.fact.0 c.conducts-p.ensures (sym c.stopped.ensures ∙ c.if-stopped.false) (c.requires.fact.2 _ c.group_of-g.ensures.1), grown_entry c.requires.fact.0 c.conducts-p.ensures (sym c.stopped.ensures ∙ c.if-stopped.false))

pub shape_of-letter-then-stopped-2 : goal.shape_of-letter-then-stopped-2
shape_of-letter-then-stopped-2 c = omega (arith, c.conducts-p.auto.letter, c.both-q.auto.letter)

pub shape_of-low-then-stopped-2 : goal.shape_of-low-then-stopped-2
shape_of-low-then-stopped-2 c = omega (arith, c.conducts-p.auto.low, c.both-q.auto.low)

pub shape_of-high-then-stopped-2 : goal.shape_of-high-then-stopped-2
shape_of-high-then-stopped-2 c = omega (arith, c.conducts-p.auto.high, c.both-q.auto.high)

pub shape_of-index-then-stopped-2 : goal.shape_of-index-then-stopped-2
shape_of-index-then-stopped-2 c = omega (arith, c.conducts-p.auto.index, c.both-q.auto.index)

pub returns-then-stopped-2 : goal.returns-then-stopped-2
returns-then-stopped-2 c = grown_full (grown_then c.conducts-p.ensures (sym c.stopped.ensures ∙ c.if-stopped.false) c.both-q.ensures) (sym c.stopped-2.ensures ∙ c.if-stopped-2.true)

pub between_inner-requires : goal.between_inner-requires
between_inner-requires c = (c.requires.laid.0.long, c.requires.laid.0.within, c.requires.laid.1)

pub shape_of-letter-then-not-between_inner : goal.shape_of-letter-then-not-between_inner
shape_of-letter-then-not-between_inner c = omega (arith, c.conducts-p.auto.letter, c.both-q.auto.letter)

pub shape_of-low-then-not-between_inner : goal.shape_of-low-then-not-between_inner
shape_of-low-then-not-between_inner c = omega (arith, c.conducts-p.auto.low, c.both-q.auto.low)

pub shape_of-high-then-not-between_inner : goal.shape_of-high-then-not-between_inner
shape_of-high-then-not-between_inner c = omega (arith, c.conducts-p.auto.high, c.both-q.auto.high)

pub shape_of-index-then-not-between_inner : goal.shape_of-index-then-not-between_inner
shape_of-index-then-not-between_inner c = omega (arith, c.conducts-p.auto.index, c.both-q.auto.index)

pub returns-then-not-between_inner : goal.returns-then-not-between_inner
returns-then-not-between_inner c = rw (← c.group_of-g.ensures.0) (keep_driven c.requires.fact.0 (net_transistor c.args.net.now c.args.i).polarity _ (get_or c.args.values (net_transistor c.args.net.now c.args.i).gate 0) (cell c.args.joined.now ((net_transistor c.args.net.now c.args.i).first - 2) ((net_transistor c.args.net.now c.args.i).second - 2)) (between_inner (net_circuit c.args.net.now) (net_transistor c.args.net.now c.args.i)) (c.requires.fact.2 _ c.group_of-g.ensures.1) c.conducts-p.ensures (sym c.stopped.ensures ∙ c.if-stopped.false) c.both-q.ensures (sym c.between_inner.ensures ∙ not-true _ c.if-not-between_inner.true-raw))

pub overflow_add-a : goal.overflow_add-a
overflow_add-a c = omega (arith, laid_few _ c.requires.laid.0 _ c.requires.laid.1)

pub offset_bounds-net-at : goal.offset_bounds-net-at
offset_bounds-net-at c = omega (arith, laid_few _ c.requires.laid.0 _ c.requires.laid.1)

pub bounds-net-at : goal.bounds-net-at
bounds-net-at c = omega (arith, c.requires.laid.0.long, laid_few _ c.requires.laid.0 _ c.requires.laid.1)

pub overflow_cast-a : goal.overflow_cast-a
overflow_cast-a c = omega (arith, laid_first _ c.requires.laid.0 _ c.requires.laid.1)

pub overflow_sub-a : goal.overflow_sub-a
overflow_sub-a c = omega (arith, (laid_between _ c.requires.laid.0 _ c.requires.laid.1 (sym c.between_inner.ensures ∙ not-false _ c.if-not-between_inner.false-raw)).0.0)

pub overflow_add-b : goal.overflow_add-b
overflow_add-b c = omega (arith, laid_few _ c.requires.laid.0 _ c.requires.laid.1)

pub offset_bounds-net-at-2 : goal.offset_bounds-net-at-2
offset_bounds-net-at-2 c = omega (arith, laid_few _ c.requires.laid.0 _ c.requires.laid.1)

pub bounds-net-at-2 : goal.bounds-net-at-2
bounds-net-at-2 c = omega (arith, c.requires.laid.0.long, laid_few _ c.requires.laid.0 _ c.requires.laid.1)

pub overflow_cast-b : goal.overflow_cast-b
overflow_cast-b c = omega (arith, laid_second _ c.requires.laid.0 _ c.requires.laid.1)

pub overflow_sub-b : goal.overflow_sub-b
overflow_sub-b c = omega (arith, (laid_between _ c.requires.laid.0 _ c.requires.laid.1 (sym c.between_inner.ensures ∙ not-false _ c.if-not-between_inner.false-raw)).1.0)

pub offset_bounds-joined-a : goal.offset_bounds-joined-a
offset_bounds-joined-a c = omega (arith, (laid_between _ c.requires.laid.0 _ c.requires.laid.1 (sym c.between_inner.ensures ∙ not-false _ c.if-not-between_inner.false-raw)).0.0, (laid_between _ c.requires.laid.0 _ c.requires.laid.1 (sym c.between_inner.ensures ∙ not-false _ c.if-not-between_inner.false-raw)).0.1, (laid_between _ c.requires.laid.0 _ c.requires.laid.1 (sym c.between_inner.ensures ∙ not-false _ c.if-not-between_inner.false-raw)).1.0, (laid_between _ c.requires.laid.0 _ c.requires.laid.1 (sym c.between_inner.ensures ∙ not-false _ c.if-not-between_inner.false-raw)).1.1)

pub offset_bounds-joined-b : goal.offset_bounds-joined-b
offset_bounds-joined-b c = omega (arith, (laid_between _ c.requires.laid.0 _ c.requires.laid.1 (sym c.between_inner.ensures ∙ not-false _ c.if-not-between_inner.false-raw)).0.0, (laid_between _ c.requires.laid.0 _ c.requires.laid.1 (sym c.between_inner.ensures ∙ not-false _ c.if-not-between_inner.false-raw)).0.1, (laid_between _ c.requires.laid.0 _ c.requires.laid.1 (sym c.between_inner.ensures ∙ not-false _ c.if-not-between_inner.false-raw)).1.0, (laid_between _ c.requires.laid.0 _ c.requires.laid.1 (sym c.between_inner.ensures ∙ not-false _ c.if-not-between_inner.false-raw)).1.1)

pub without-requires : goal.without-requires
without-requires c = (c.both-q.ensures.opened (sym c.stopped-2.ensures ∙ c.if-stopped-2.false), grown_entry (c.conducts-p.ensures.opened (sym c.stopped.ensures ∙ c.if-stopped.false)) c.both-q.ensures (sym c.stopped-2.ensures ∙ c.if-stopped-2.false), grown_within (c.conducts-p.ensures.opened (sym c.stopped.ensures ∙ c.if-stopped.false)) c.both-q.ensures (sym c.stopped-2.ensures ∙ c.if-stopped-2.false) (grown_within c.requires.fact.0 c.conducts-p.ensures (sym c.stopped.ensures ∙ c.if-stopped.false) (c.requires.fact.3 _ _ (omega (arith, (laid_between _ c.requires.laid.0 _ c.requires.laid.1 (sym c.between_inner.ensures ∙ not-false _ c.if-not-between_inner.false-raw)).0.0, (laid_between _ c.requires.laid.0 _ c.requires.laid.1 (sym c.between_inner.ensures ∙ not-false _ c.if-not-between_inner.false-raw)).0.1, (laid_between _ c.requires.laid.0 _ c.requires.laid.1 (sym c.between_inner.ensures ∙ not-false _ c.if-not-between_inner.false-raw)).1.0, (laid_between _ c.requires.laid.0 _ c.requires.laid.1 (sym c.between_inner.ensures ∙ not-false _ c.if-not-between_inner.false-raw)).1.1)) (omega (arith, (laid_between _ c.requires.laid.0 _ c.requires.laid.1 (sym c.between_inner.ensures ∙ not-false _ c.if-not-between_inner.false-raw)).0.0, (laid_between _ c.requires.laid.0 _ c.requires.laid.1 (sym c.between_inner.ensures ∙ not-false _ c.if-not-between_inner.false-raw)).0.1, (laid_between _ c.requires.laid.0 _ c.requires.laid.1 (sym c.between_inner.ensures ∙ not-false _ c.if-not-between_inner.false-raw)).1.0, (laid_between _ c.requires.laid.0 _ c.requires.laid.1 (sym c.between_inner.ensures ∙ not-false _ c.if-not-between_inner.false-raw)).1.1)))))

pub shape_of-letter : goal.shape_of-letter
shape_of-letter c = omega (arith, c.conducts-p.auto.letter, c.both-q.auto.letter, c.without.auto.letter)

pub shape_of-low : goal.shape_of-low
shape_of-low c = omega (arith, c.conducts-p.auto.low, c.both-q.auto.low, c.without.auto.low)

pub shape_of-high : goal.shape_of-high
shape_of-high c = omega (arith, c.conducts-p.auto.high, c.both-q.auto.high, c.without.auto.high)

pub shape_of-index : goal.shape_of-index
shape_of-index c = omega (arith, c.conducts-p.auto.index, c.both-q.auto.index, c.without.auto.index)

pub returns : goal.returns
returns c = rw (← c.group_of-g.ensures.0) (keep_between c.requires.fact.0 (net_transistor c.args.net.now c.args.i).polarity _ (get_or c.args.values (net_transistor c.args.net.now c.args.i).gate 0) (cell c.args.joined.now ((net_transistor c.args.net.now c.args.i).first - 2) ((net_transistor c.args.net.now c.args.i).second - 2)) (between_inner (net_circuit c.args.net.now) (net_transistor c.args.net.now c.args.i)) (c.requires.fact.2 _ c.group_of-g.ensures.1) c.conducts-p.ensures (sym c.stopped.ensures ∙ c.if-stopped.false) c.both-q.ensures (sym c.between_inner.ensures ∙ not-false _ c.if-not-between_inner.false-raw) (c.requires.fact.3 _ _ (omega (arith, (laid_between _ c.requires.laid.0 _ c.requires.laid.1 (sym c.between_inner.ensures ∙ not-false _ c.if-not-between_inner.false-raw)).0.0, (laid_between _ c.requires.laid.0 _ c.requires.laid.1 (sym c.between_inner.ensures ∙ not-false _ c.if-not-between_inner.false-raw)).0.1, (laid_between _ c.requires.laid.0 _ c.requires.laid.1 (sym c.between_inner.ensures ∙ not-false _ c.if-not-between_inner.false-raw)).1.0, (laid_between _ c.requires.laid.0 _ c.requires.laid.1 (sym c.between_inner.ensures ∙ not-false _ c.if-not-between_inner.false-raw)).1.1)) (omega (arith, (laid_between _ c.requires.laid.0 _ c.requires.laid.1 (sym c.between_inner.ensures ∙ not-false _ c.if-not-between_inner.false-raw)).0.0, (laid_between _ c.requires.laid.0 _ c.requires.laid.1 (sym c.between_inner.ensures ∙ not-false _ c.if-not-between_inner.false-raw)).0.1, (laid_between _ c.requires.laid.0 _ c.requires.laid.1 (sym c.between_inner.ensures ∙ not-false _ c.if-not-between_inner.false-raw)).1.0, (laid_between _ c.requires.laid.0 _ c.requires.laid.1 (sym c.between_inner.ensures ∙ not-false _ c.if-not-between_inner.false-raw)).1.1))) (sym c.stopped-2.ensures ∙ c.if-stopped-2.false) c.without.ensures)
