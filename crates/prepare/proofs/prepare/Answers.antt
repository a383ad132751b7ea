-- `prepare` meets its contract: part after part, and the roots in their places. Assumes nothing.
use native.Mathlib.Omega.{arith}
use mathlib.Core.Path.{refl, sym, ◌∙◌, ap}
use mathlib.Core.Bool.{true≢false}
use Prim.Native.Nat.{◌+◌}
use Rattle.lists.proofs.Cases.{true_false}
use Rattle.diagram.specs.Held.{held}
use Rattle.table.specs.Stop.{stopped}
use Rattle.net.specs.Net.{at}
use Rattle.working.proofs.Grow.{open_three}
use Rattle.working.proofs.Fill.{filled_used, used_kept}
use Rattle.prepare.proofs.Assembly.{assembled, values_bits}
use Rattle.prepare.proofs.prepare.Goals as goal

pub begin-requires : goal.begin-requires
begin-requires c = (c.requires.laid.2, omega (arith, c.requires.laid.1.few))

pub bounds-net-0 : goal.bounds-net-0
bounds-net-0 c = omega (arith, c.requires.laid.0.long)

pub overflow_cast-count : goal.overflow_cast-count
overflow_cast-count c = omega (arith, c.requires.laid.0.within.nodes)

pub overflow_add-count : goal.overflow_add-count
overflow_add-count c = omega (arith, c.requires.laid.0.within.nodes)

pub bring_all-v-requires : goal.bring_all-v-requires
bring_all-v-requires c = record { legible = (c.requires.laid.1, (λ n hn. c.requires.all_used.1 n (omega arith)), omega (arith, c.requires.laid.0.within.nodes)); fact = c.begin.ensures }

pub shape_of-letter-then-stopped : goal.shape_of-letter-then-stopped
shape_of-letter-then-stopped c = omega (arith, c.begin.auto.letter, c.bring_all-v.auto.letter)

pub shape_of-low-then-stopped : goal.shape_of-low-then-stopped
shape_of-low-then-stopped c = omega (arith, c.begin.auto.low, c.bring_all-v.auto.low)

pub shape_of-high-then-stopped : goal.shape_of-high-then-stopped
shape_of-high-then-stopped c = omega (arith, c.begin.auto.high, c.bring_all-v.auto.high)

pub shape_of-index-then-stopped : goal.shape_of-index-then-stopped
shape_of-index-then-stopped c = omega (arith, c.begin.auto.index, c.bring_all-v.auto.index)

pub returns-then-stopped : goal.returns-then-stopped
returns-then-stopped c = ((λ z. true_false _ (ap stopped c.nothing.ensures ∙ sym c.stopped.ensures ∙ c.if-stopped.true) z), (λ z. (c.bring_all-v.ensures.1 (sym c.stopped.ensures ∙ c.if-stopped.true)).opened))

pub bring_all-w-requires : goal.bring_all-w-requires
bring_all-w-requires c = record { legible = (c.requires.laid.1, (λ n hn. c.requires.all_used.2 n (omega arith)), omega (arith, c.requires.laid.0.within.nodes)); fact = (c.bring_all-v.ensures.0 (sym c.stopped.ensures ∙ c.if-stopped.false)).opened }

pub shape_of-letter-then-stopped-2 : goal.shape_of-letter-then-stopped-2
shape_of-letter-then-stopped-2 c = omega (arith, c.begin.auto.letter, c.bring_all-v.auto.letter, c.bring_all-w.auto.letter)

pub shape_of-low-then-stopped-2 : goal.shape_of-low-then-stopped-2
shape_of-low-then-stopped-2 c = omega (arith, c.begin.auto.low, c.bring_all-v.auto.low, c.bring_all-w.auto.low)

pub shape_of-high-then-stopped-2 : goal.shape_of-high-then-stopped-2
shape_of-high-then-stopped-2 c = omega (arith, c.begin.auto.high, c.bring_all-v.auto.high, c.bring_all-w.auto.high)

pub shape_of-index-then-stopped-2 : goal.shape_of-index-then-stopped-2
shape_of-index-then-stopped-2 c = omega (arith, c.begin.auto.index, c.bring_all-v.auto.index, c.bring_all-w.auto.index)

pub returns-then-stopped-2 : goal.returns-then-stopped-2
returns-then-stopped-2 c = ((λ z. true_false _ (ap stopped c.nothing-then-stopped-2.ensures ∙ sym c.stopped-2.ensures ∙ c.if-stopped-2.true) z), (λ z. (c.bring_all-w.ensures.1 (sym c.stopped-2.ensures ∙ c.if-stopped-2.true)).opened))

pub seed_all-t-requires : goal.seed_all-t-requires
seed_all-t-requires c = record { laid = c.requires.laid.0; legible = (c.requires.laid.1, c.requires.all_used.0, c.requires.all_used.1); fact = (c.bring_all-w.ensures.0 (sym c.stopped-2.ensures ∙ c.if-stopped-2.false)).opened }

pub shape_of-letter-then-stopped-3 : goal.shape_of-letter-then-stopped-3
shape_of-letter-then-stopped-3 c = omega (arith, c.begin.auto.letter, c.bring_all-v.auto.letter, c.bring_all-w.auto.letter, c.seed_all-t.auto.letter)

pub shape_of-low-then-stopped-3 : goal.shape_of-low-then-stopped-3
shape_of-low-then-stopped-3 c = omega (arith, c.begin.auto.low, c.bring_all-v.auto.low, c.bring_all-w.auto.low, c.seed_all-t.auto.low)

pub shape_of-high-then-stopped-3 : goal.shape_of-high-then-stopped-3
shape_of-high-then-stopped-3 c = omega (arith, c.begin.auto.high, c.bring_all-v.auto.high, c.bring_all-w.auto.high, c.seed_all-t.auto.high)

pub shape_of-index-then-stopped-3 : goal.shape_of-index-then-stopped-3
shape_of-index-then-stopped-3 c = omega (arith, c.begin.auto.index, c.bring_all-v.auto.index, c.bring_all-w.auto.index, c.seed_all-t.auto.index)

pub returns-then-stopped-3 : goal.returns-then-stopped-3
returns-then-stopped-3 c = ((λ z. true_false _ (ap stopped c.nothing-then-stopped-3.ensures ∙ sym c.stopped-3.ensures ∙ c.if-stopped-3.true) z), (λ z. (c.seed_all-t.ensures.1 (sym c.stopped-3.ensures ∙ c.if-stopped-3.true)).opened))

pub active-marks-requires : goal.active-marks-requires
active-marks-requires c = c.requires.laid.0

pub keep_all-q-requires : goal.keep_all-q-requires
keep_all-q-requires c = record { laid = c.requires.laid.0; fact = ((c.seed_all-t.ensures.0 (sym c.stopped-3.ensures ∙ c.if-stopped-3.false)).opened, (λ n hn. used_kept (c.bring_all-w.ensures.0 (sym c.stopped-2.ensures ∙ c.if-stopped-2.false)).opened (c.seed_all-t.ensures.0 (sym c.stopped-3.ensures ∙ c.if-stopped-3.false)).opened (c.seed_all-t.ensures.0 (sym c.stopped-3.ensures ∙ c.if-stopped-3.false)).extends (used_kept (c.bring_all-v.ensures.0 (sym c.stopped.ensures ∙ c.if-stopped.false)).opened (c.bring_all-w.ensures.0 (sym c.stopped-2.ensures ∙ c.if-stopped-2.false)).opened (c.bring_all-w.ensures.0 (sym c.stopped-2.ensures ∙ c.if-stopped-2.false)).extends (filled_used (c.bring_all-v.ensures.0 (sym c.stopped.ensures ∙ c.if-stopped.false)) n hn))), (λ j hj. omega (arith, c.active-marks.ensures.bits j hj, open_three (c.seed_all-t.ensures.0 (sym c.stopped-3.ensures ∙ c.if-stopped-3.false)).opened)), values_bits (held c.args.tletter.now c.args.tlow.now c.args.thigh.now c.args.tused) c.args.after (at c.args.net.now 0 + 2) (c.bring_all-v.ensures.0 (sym c.stopped.ensures ∙ c.if-stopped.false)) (c.bring_all-w.ensures.0 (sym c.stopped-2.ensures ∙ c.if-stopped-2.false)) (c.seed_all-t.ensures.0 (sym c.stopped-3.ensures ∙ c.if-stopped-3.false)) (refl, c.requires.laid.0.within.nodes) c.requires.all_used.3) }

pub shape_of-letter-then-stopped-4 : goal.shape_of-letter-then-stopped-4
shape_of-letter-then-stopped-4 c = omega (arith, c.begin.auto.letter, c.bring_all-v.auto.letter, c.bring_all-w.auto.letter, c.seed_all-t.auto.letter, c.keep_all-q.auto.letter)

pub shape_of-low-then-stopped-4 : goal.shape_of-low-then-stopped-4
shape_of-low-then-stopped-4 c = omega (arith, c.begin.auto.low, c.bring_all-v.auto.low, c.bring_all-w.auto.low, c.seed_all-t.auto.low, c.keep_all-q.auto.low)

pub shape_of-high-then-stopped-4 : goal.shape_of-high-then-stopped-4
shape_of-high-then-stopped-4 c = omega (arith, c.begin.auto.high, c.bring_all-v.auto.high, c.bring_all-w.auto.high, c.seed_all-t.auto.high, c.keep_all-q.auto.high)

pub shape_of-index-then-stopped-4 : goal.shape_of-index-then-stopped-4
shape_of-index-then-stopped-4 c = omega (arith, c.begin.auto.index, c.bring_all-v.auto.index, c.bring_all-w.auto.index, c.seed_all-t.auto.index, c.keep_all-q.auto.index)

pub returns-then-stopped-4 : goal.returns-then-stopped-4
returns-then-stopped-4 c = ((λ z. true_false _ (ap stopped c.nothing-then-stopped-4.ensures ∙ sym c.stopped-4.ensures ∙ c.if-stopped-4.true) z), (λ z. (c.keep_all-q.ensures.1 (sym c.stopped-4.ensures ∙ c.if-stopped-4.true)).opened))

pub node_roots-nodes-requires : goal.node_roots-nodes-requires
node_roots-nodes-requires c = c.requires.laid.0

pub shape_of-letter : goal.shape_of-letter
shape_of-letter c = omega (arith, c.begin.auto.letter, c.bring_all-v.auto.letter, c.bring_all-w.auto.letter, c.seed_all-t.auto.letter, c.keep_all-q.auto.letter)

pub shape_of-low : goal.shape_of-low
shape_of-low c = omega (arith, c.begin.auto.low, c.bring_all-v.auto.low, c.bring_all-w.auto.low, c.seed_all-t.auto.low, c.keep_all-q.auto.low)

pub shape_of-high : goal.shape_of-high
shape_of-high c = omega (arith, c.begin.auto.high, c.bring_all-v.auto.high, c.bring_all-w.auto.high, c.seed_all-t.auto.high, c.keep_all-q.auto.high)

pub shape_of-index : goal.shape_of-index
shape_of-index c = omega (arith, c.begin.auto.index, c.bring_all-v.auto.index, c.bring_all-w.auto.index, c.seed_all-t.auto.index, c.keep_all-q.auto.index)

pub returns : goal.returns
returns c = ((λ z. assembled _ c.requires.laid.0 (held c.args.tletter.now c.args.tlow.now c.args.thigh.now c.args.tused) c.args.before c.args.after c.args.pending c.args.all c.args.only (at c.args.net.now 0 + 2) refl (c.bring_all-v.ensures.0 (sym c.stopped.ensures ∙ c.if-stopped.false)) (c.bring_all-w.ensures.0 (sym c.stopped-2.ensures ∙ c.if-stopped-2.false)) (c.seed_all-t.ensures.0 (sym c.stopped-3.ensures ∙ c.if-stopped-3.false)) c.active-marks.ensures (c.keep_all-q.ensures.0 (sym c.stopped-4.ensures ∙ c.if-stopped-4.false)) c.node_roots-nodes.ensures c.kept_roots.ensures), (λ z. absurd (true≢false (sym z))))
