-- `touch` meets its contract: the gate, then the ends. Assumes nothing.
use mathlib.Core.Path.{sym, ◌∙◌}
use native.Mathlib.Omega.{arith}
use lib.ListN.{get_or}
use Rattle.format.specs.Legal.{is_input}
use Rattle.net.specs.Net.{net_transistor, net_circuit}
use Rattle.working.proofs.Grow.{open_three, grown_full, grown_then, grown_within, grown_entry}
use Rattle.prepare.proofs.Reading.{laid_few, laid_gate, laid_first, laid_second}
use Rattle.prepare.proofs.Seeding.{if_used, touch_grown}
use Rattle.prepare.proofs.seeds.touch.Goals as goal

pub overflow_add-gate : goal.overflow_add-gate
overflow_add-gate c = omega (arith, laid_few _ c.requires.laid.0 _ c.requires.laid.1)

pub offset_bounds-net-at : goal.offset_bounds-net-at
offset_bounds-net-at c = omega (arith, laid_few _ c.requires.laid.0 _ c.requires.laid.1)

pub bounds-net-at : goal.bounds-net-at
bounds-net-at c = omega (arith, c.requires.laid.0.long, laid_few _ c.requires.laid.0 _ c.requires.laid.1)

pub overflow_cast-gate : goal.overflow_cast-gate
overflow_cast-gate c = omega (arith, laid_gate _ c.requires.laid.0 _ c.requires.laid.1)

pub overflow_add-at : goal.overflow_add-at
overflow_add-at c = omega (arith, laid_few _ c.requires.laid.0 _ c.requires.laid.1)

pub offset_bounds-net-at-2 : goal.offset_bounds-net-at-2
offset_bounds-net-at-2 c = omega (arith, laid_few _ c.requires.laid.0 _ c.requires.laid.1)

pub bounds-net-at-2 : goal.bounds-net-at-2
bounds-net-at-2 c = omega (arith, c.requires.laid.0.long, laid_few _ c.requires.laid.0 _ c.requires.laid.1)

pub input_changed-a-requires : goal.input_changed-a-requires
input_changed-a-requires c = (c.requires.laid.0, (c.requires.laid.0.within.transistor _ c.requires.laid.1).first)

pub overflow_add-at-2 : goal.overflow_add-at-2
overflow_add-at-2 c = omega (arith, laid_few _ c.requires.laid.0 _ c.requires.laid.1)

pub offset_bounds-net-at-3 : goal.offset_bounds-net-at-3
offset_bounds-net-at-3 c = omega (arith, laid_few _ c.requires.laid.0 _ c.requires.laid.1)

pub bounds-net-at-3 : goal.bounds-net-at-3
bounds-net-at-3 c = omega (arith, c.requires.laid.0.long, laid_few _ c.requires.laid.0 _ c.requires.laid.1)

pub input_changed-b-requires : goal.input_changed-b-requires
input_changed-b-requires c = (c.requires.laid.0, (c.requires.laid.0.within.transistor _ c.requires.laid.1).second)

pub offset_bounds-changed-gate : goal.offset_bounds-changed-gate
offset_bounds-changed-gate c = omega (arith, laid_gate _ c.requires.laid.0 _ c.requires.laid.1)

pub bounds-changed-gate : goal.bounds-changed-gate
bounds-changed-gate c = laid_gate _ c.requires.laid.0 _ c.requires.laid.1

pub any-p-requires : goal.any-p-requires
any-p-requires c = (c.requires.fact.0, c.requires.fact.1 _ (laid_gate _ c.requires.laid.0 _ c.requires.laid.1), c.requires.fact.3, λ x hx. c.requires.fact.2 _ x (laid_gate _ c.requires.laid.0 _ c.requires.laid.1) hx)

pub shape_of-letter-then-stopped : goal.shape_of-letter-then-stopped
shape_of-letter-then-stopped c = omega (arith, c.any-p.auto.letter)

pub shape_of-low-then-stopped : goal.shape_of-low-then-stopped
shape_of-low-then-stopped c = omega (arith, c.any-p.auto.low)

pub shape_of-high-then-stopped : goal.shape_of-high-then-stopped
shape_of-high-then-stopped c = omega (arith, c.any-p.auto.high)

pub shape_of-index-then-stopped : goal.shape_of-index-then-stopped
shape_of-index-then-stopped c = omega (arith, c.any-p.auto.index)

pub returns-then-stopped : goal.returns-then-stopped
returns-then-stopped c = grown_full c.any-p.ensures (sym c.stopped.ensures ∙ c.if-stopped.true)

pub either-q-requires : goal.either-q-requires
either-q-requires c = (c.any-p.ensures.opened (sym c.stopped.ensures ∙ c.if-stopped.false), grown_within c.requires.fact.0 c.any-p.ensures (sym c.stopped.ensures ∙ c.if-stopped.false) (if_used (is_input (net_circuit c.args.net.now) (net_transistor c.args.net.now c.args.i).first) (get_or c.args.changed (net_transistor c.args.net.now c.args.i).first 0) _ c.input_changed-a.ensures (c.requires.fact.1 _ (laid_first _ c.requires.laid.0 _ c.requires.laid.1)) (omega (arith, open_three c.requires.fact.0))), grown_entry c.requires.fact.0 c.any-p.ensures (sym c.stopped.ensures ∙ c.if-stopped.false))

pub shape_of-letter-then-stopped-2 : goal.shape_of-letter-then-stopped-2
shape_of-letter-then-stopped-2 c = omega (arith, c.any-p.auto.letter, c.either-q.auto.letter)

pub shape_of-low-then-stopped-2 : goal.shape_of-low-then-stopped-2
shape_of-low-then-stopped-2 c = omega (arith, c.any-p.auto.low, c.either-q.auto.low)

pub shape_of-high-then-stopped-2 : goal.shape_of-high-then-stopped-2
shape_of-high-then-stopped-2 c = omega (arith, c.any-p.auto.high, c.either-q.auto.high)

pub shape_of-index-then-stopped-2 : goal.shape_of-index-then-stopped-2
shape_of-index-then-stopped-2 c = omega (arith, c.any-p.auto.index, c.either-q.auto.index)

pub returns-then-stopped-2 : goal.returns-then-stopped-2
returns-then-stopped-2 c = grown_full (grown_then c.any-p.ensures (sym c.stopped.ensures ∙ c.if-stopped.false) c.either-q.ensures) (sym c.stopped-2.ensures ∙ c.if-stopped-2.true)

pub either-requires : goal.either-requires
either-requires c = (c.either-q.ensures.opened (sym c.stopped-2.ensures ∙ c.if-stopped-2.false), grown_within (c.any-p.ensures.opened (sym c.stopped.ensures ∙ c.if-stopped.false)) c.either-q.ensures (sym c.stopped-2.ensures ∙ c.if-stopped-2.false) (grown_within c.requires.fact.0 c.any-p.ensures (sym c.stopped.ensures ∙ c.if-stopped.false) (if_used (is_input (net_circuit c.args.net.now) (net_transistor c.args.net.now c.args.i).second) (get_or c.args.changed (net_transistor c.args.net.now c.args.i).second 0) _ c.input_changed-b.ensures (c.requires.fact.1 _ (laid_second _ c.requires.laid.0 _ c.requires.laid.1)) (omega (arith, open_three c.requires.fact.0)))), grown_entry (c.any-p.ensures.opened (sym c.stopped.ensures ∙ c.if-stopped.false)) c.either-q.ensures (sym c.stopped-2.ensures ∙ c.if-stopped-2.false))

pub shape_of-letter : goal.shape_of-letter
shape_of-letter c = omega (arith, c.any-p.auto.letter, c.either-q.auto.letter, c.either.auto.letter)

pub shape_of-low : goal.shape_of-low
shape_of-low c = omega (arith, c.any-p.auto.low, c.either-q.auto.low, c.either.auto.low)

pub shape_of-high : goal.shape_of-high
shape_of-high c = omega (arith, c.any-p.auto.high, c.either-q.auto.high, c.either.auto.high)

pub shape_of-index : goal.shape_of-index
shape_of-index c = omega (arith, c.any-p.auto.index, c.either-q.auto.index, c.either.auto.index)

pub returns : goal.returns
returns c = touch_grown c.requires.fact.0 c.args.z (get_or c.args.changed (net_transistor c.args.net.now c.args.i).gate 0) (get_or c.args.changed (net_transistor c.args.net.now c.args.i).first 0) (get_or c.args.changed (net_transistor c.args.net.now c.args.i).second 0) _ _ (is_input (net_circuit c.args.net.now) (net_transistor c.args.net.now c.args.i).first) (is_input (net_circuit c.args.net.now) (net_transistor c.args.net.now c.args.i).second) c.input_changed-a.ensures c.input_changed-b.ensures (if_used (is_input (net_circuit c.args.net.now) (net_transistor c.args.net.now c.args.i).first) (get_or c.args.changed (net_transistor c.args.net.now c.args.i).first 0) _ c.input_changed-a.ensures (c.requires.fact.1 _ (laid_first _ c.requires.laid.0 _ c.requires.laid.1)) (omega (arith, open_three c.requires.fact.0))) (if_used (is_input (net_circuit c.args.net.now) (net_transistor c.args.net.now c.args.i).second) (get_or c.args.changed (net_transistor c.args.net.now c.args.i).second 0) _ c.input_changed-b.ensures (c.requires.fact.1 _ (laid_second _ c.requires.laid.0 _ c.requires.laid.1)) (omega (arith, open_three c.requires.fact.0))) (λ x hx. c.requires.fact.4 x hx) (λ x hx. c.requires.fact.2 _ x (laid_first _ c.requires.laid.0 _ c.requires.laid.1) hx) (λ x hx. c.requires.fact.2 _ x (laid_second _ c.requires.laid.0 _ c.requires.laid.1) hx) c.any-p.ensures (sym c.stopped.ensures ∙ c.if-stopped.false) c.either-q.ensures (sym c.stopped-2.ensures ∙ c.if-stopped-2.false) c.either.ensures
