-- `seed_all` meets its contract: everywhere, or by what changed. Assumes nothing.
use native.Mathlib.Omega.{arith}
use mathlib.Core.Path.{sym, ◌∙◌}
use mathlib.Core.Bool.{true≢false}
use Prim.Native.Nat.{◌+◌}
use Rattle.diagram.specs.Held.{held}
use Rattle.net.specs.Net.{at, net_circuit}
use Rattle.net.proofs.Laying.{nodes_length}
use Rattle.working.proofs.Crowd.{crowded_from}
use Rattle.working.proofs.Fill.{filled_used}
use Rattle.prepare.specs.Steps.{differs}
use Rattle.prepare.proofs.Reading.{laid_legal, laid_nodes}
use Rattle.prepare.proofs.Seeding.{seed_every, changes_bits, seed_done}
use Rattle.prepare.proofs.seeds.seed_all.Goals as goal

pub every_node-requires : goal.every_node-requires
every_node-requires c = c.requires.laid

pub returns-then-all : goal.returns-then-all
returns-then-all c = ((λ z. seed_every (net_circuit c.args.net.now) (2 + at c.args.net.now 0) c.args.all c.args.only (λ p. differs (2 + at c.args.net.now 0) c.args.k (held c.args.tletter.now c.args.tlow.now c.args.thigh.now c.args.tused) c.args.before c.args.after p) c.if-all.true c.requires.fact c.every_node.ensures), (λ z. absurd (true≢false (sym z))))

pub bounds-net-0 : goal.bounds-net-0
bounds-net-0 c = omega (arith, c.requires.laid.long)

pub overflow_cast-count : goal.overflow_cast-count
overflow_cast-count c = omega (arith, c.requires.laid.within.nodes)

pub overflow_add-count : goal.overflow_add-count
overflow_add-count c = omega (arith, c.requires.laid.within.nodes)

pub changed_all-ch-requires : goal.changed_all-ch-requires
changed_all-ch-requires c = record { legible = (c.requires.legible.0, (λ n hn. c.requires.legible.1 n (omega arith)), (λ n hn. c.requires.legible.2 n (omega arith)), omega (arith, c.requires.laid.within.nodes)); fact = c.requires.fact }

pub shape_of-letter-then-stopped : goal.shape_of-letter-then-stopped
shape_of-letter-then-stopped c = omega (arith, c.changed_all-ch.auto.letter)

pub shape_of-low-then-stopped : goal.shape_of-low-then-stopped
shape_of-low-then-stopped c = omega (arith, c.changed_all-ch.auto.low)

pub shape_of-high-then-stopped : goal.shape_of-high-then-stopped
shape_of-high-then-stopped c = omega (arith, c.changed_all-ch.auto.high)

pub shape_of-index-then-stopped : goal.shape_of-index-then-stopped
shape_of-index-then-stopped c = omega (arith, c.changed_all-ch.auto.index)

pub returns-then-stopped : goal.returns-then-stopped
returns-then-stopped c = ((λ z. absurd (true≢false (sym (sym c.stopped.ensures ∙ c.if-stopped.true) ∙ z))), (λ z. c.changed_all-ch.ensures.1 z))

pub seed_nodes-requires : goal.seed_nodes-requires
seed_nodes-requires c = record { laid = c.requires.laid; fact = ((c.changed_all-ch.ensures.0 (sym c.stopped.ensures ∙ c.if-stopped.false)).opened, filled_used (c.changed_all-ch.ensures.0 (sym c.stopped.ensures ∙ c.if-stopped.false)), changes_bits (held c.args.tletter.now c.args.tlow.now c.args.thigh.now c.args.tused) c.args.before c.args.after (at c.args.net.now 0 + 2) (c.changed_all-ch.ensures.0 (sym c.stopped.ensures ∙ c.if-stopped.false))) }

pub shape_of-letter : goal.shape_of-letter
shape_of-letter c = omega (arith, c.changed_all-ch.auto.letter, c.seed_nodes.auto.letter)

pub shape_of-low : goal.shape_of-low
shape_of-low c = omega (arith, c.changed_all-ch.auto.low, c.seed_nodes.auto.low)

pub shape_of-high : goal.shape_of-high
shape_of-high c = omega (arith, c.changed_all-ch.auto.high, c.seed_nodes.auto.high)

pub shape_of-index : goal.shape_of-index
shape_of-index c = omega (arith, c.changed_all-ch.auto.index, c.seed_nodes.auto.index)

pub returns : goal.returns
returns c = ((λ z. seed_done (held c.args.tletter.now c.args.tlow.now c.args.thigh.now c.args.tused) c.args.before c.args.after (at c.args.net.now 0 + 2) (c.changed_all-ch.ensures.0 (sym c.stopped.ensures ∙ c.if-stopped.false)) (net_circuit c.args.net.now) (laid_legal _ c.requires.laid) (laid_nodes _ c.requires.laid) c.args.all c.args.only (2 + at c.args.net.now 0) c.if-all.false (omega arith) (omega (arith, nodes_length c.args.net.now)) (c.seed_nodes.ensures.0 z)), (λ z. crowded_from (c.changed_all-ch.ensures.0 (sym c.stopped.ensures ∙ c.if-stopped.false)).extends (c.seed_nodes.ensures.1 z)))
