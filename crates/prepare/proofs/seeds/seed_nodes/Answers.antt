use native.Mathlib.Omega.{arith}
use mathlib.Core.Path.{sym, ◌∙◌}
use Prim.Native.Nat.{ℕ}
use lib.ListN.{length-replicate, get_or-replicate}
use Rattle.net.specs.Net.{net_circuit}
use Rattle.prepare.proofs.Reading.{laid_legal, laid_nodes}
use Rattle.prepare.proofs.Seeding.{changed_used, changed_bits, seeding_first, seeding_next}
use Rattle.prepare.proofs.seeds.seed_nodes.Goals as goal

pub loop-n-init : goal.loop-n-init
loop-n-init c = seeding_first (net_circuit c.args.net.now) c.args.only c.requires.fact.0 (length-replicate {A = ℕ} 26 0) (λ m hm. get_or-replicate {A = ℕ} 26 m 0 0 hm)

pub seed_one-p-requires : goal.seed_one-p-requires
seed_one-p-requires c = record { laid = (c.requires.laid, omega (arith, c.loop-n-test.true)); fact = (c.loop-n.invariant.filling.filled.opened, changed_used c.args.changed c.requires.fact.0 c.requires.fact.1 c.loop-n.invariant.filling.filled.opened c.loop-n.invariant.filling.filled.extends, changed_bits c.args.changed c.requires.fact.0 c.requires.fact.1 c.loop-n.invariant.filling.filled.opened c.loop-n.invariant.filling.filled.extends c.requires.fact.2) }

pub loop-n-preserved : goal.loop-n-preserved
loop-n-preserved c = seeding_next (laid_legal _ c.requires.laid) (laid_nodes _ c.requires.laid) c.requires.fact.0 c.requires.fact.1 c.loop-n.invariant c.seed_one-p.ensures (sym c.stopped.ensures ∙ c.if-stopped.false) (omega (arith, c.loop-n-test.true, c.requires.laid.within.nodes)) c.seed_one-p.auto.letter c.seed_one-p.auto.low c.seed_one-p.auto.high c.seed_one-p.auto.index
