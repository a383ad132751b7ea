use native.Mathlib.Omega.{arith}
use mathlib.Core.Path.{sym, ◌∙◌}
use lib.ListN.{length}
use Rattle.working.proofs.Fill.{means_used}
use Rattle.rules.proofs.Label.{inner_node_lem}
use Rattle.net.specs.Net.{net_circuit}
use Rattle.net.proofs.Laying.{nodes_length}
use Rattle.prepare.specs.Steps.{seed_by}
use Rattle.prepare.proofs.Reading.{laid_legal, laid_at, laid_transistor, laid_nodes}
use Rattle.prepare.proofs.Arms.{arms_length, arms_at, arms_within, seed_arms}
use Rattle.prepare.proofs.Seeding.{changed_used, changed_bits, arming_first, arming_bit, arming_next, arming_full, arming_done}
use Rattle.prepare.proofs.seeds.seed_node.Goals as goal

pub loop-j-init : goal.loop-j-init
loop-j-init c = arming_first c.requires.fact.0

pub touch-p-requires : goal.touch-p-requires
touch-p-requires c = record { laid = (c.requires.laid.0, arms_within _ c.requires.laid.0 _ c.requires.laid.1 _ c.loop-j-test.true); fact = (c.loop-j.invariant.opened, changed_used c.args.changed c.requires.fact.0 c.requires.fact.1 c.loop-j.invariant.opened c.loop-j.invariant.extends, changed_bits c.args.changed c.requires.fact.0 c.requires.fact.1 c.loop-j.invariant.opened c.loop-j.invariant.extends c.requires.fact.2, means_used c.loop-j.invariant.opened c.loop-j.invariant.means, arming_bit c.requires.fact.0 c.loop-j.invariant) }

pub returns-then-stopped : goal.returns-then-stopped
returns-then-stopped c = arming_full c.requires.fact.0 c.loop-j.invariant c.touch-p.ensures (sym c.stopped.ensures ∙ c.if-stopped.true)

pub loop-j-preserved : goal.loop-j-preserved
loop-j-preserved c = arming_next c.requires.fact.0 c.loop-j.invariant _ _ c.requires.fact.1 (arms_at _ c.requires.laid.0 _ c.requires.laid.1 _ c.loop-j-test.true) (laid_at _ c.requires.laid.0 _ (arms_within _ c.requires.laid.0 _ c.requires.laid.1 _ c.loop-j-test.true)) (laid_transistor _ c.requires.laid.0 _ (arms_within _ c.requires.laid.0 _ c.requires.laid.1 _ c.loop-j-test.true)) (laid_nodes _ c.requires.laid.0) (omega (arith, arms_length _ c.requires.laid.0 _ c.requires.laid.1, c.loop-j-test.true)) c.touch-p.ensures (sym c.stopped.ensures ∙ c.if-stopped.false) c.touch-p.auto.letter c.touch-p.auto.low c.touch-p.auto.high c.touch-p.auto.index

pub returns : goal.returns
returns c = arming_done c.requires.fact.0 c.loop-j.invariant (λ e. seed_by (net_circuit c.args.net.now) e c.args.n) (seed_arms (net_circuit c.args.net.now) (laid_legal _ c.requires.laid.0) c.args.n (inner_node_lem (net_circuit c.args.net.now) (length (net_circuit c.args.net.now).nodes) c.args.n c.requires.laid.2 (omega (arith, c.requires.laid.1, nodes_length c.args.net.now))) c.requires.laid.2) (omega (arith, arms_length _ c.requires.laid.0 _ c.requires.laid.1, c.loop-j-test.false))
