-- `seed_one` meets its contract: a node that is not considered is no seed. Assumes nothing.
use native.Mathlib.Omega.{arith}
use mathlib.Core.Path.{sym, ◌∙◌}
use lib.ListN.{get_or}
use Rattle.lists.proofs.Cases.{and_left}
use Rattle.diagram.specs.Held.{held}
use Rattle.rules.specs.State.{is_inner}
use Rattle.net.specs.Net.{net_circuit}
use Rattle.prepare.specs.Steps.{one, is_considered, seed_by}
use Rattle.prepare.proofs.Seeding.{bit_none, bit_some, seed_so, seed_not}
use Rattle.prepare.proofs.seeds.seed_one.Goals as goal

pub considered_bit-requires : goal.considered_bit-requires
considered_bit-requires c = (c.requires.laid.0, c.requires.laid.1)

pub returns-then-considered_bit-eq0 : goal.returns-then-considered_bit-eq0
returns-then-considered_bit-eq0 c = seed_not (is_considered (net_circuit c.args.net.now) c.args.only c.args.n) (λ p. seed_by (net_circuit c.args.net.now) (λ m. one c.args.k (held c.args.letter.now c.args.low.now c.args.high.now c.args.used) (get_or c.args.changed m 0) p) c.args.n) (bit_none (is_considered (net_circuit c.args.net.now) c.args.only c.args.n) (sym c.considered_bit.ensures ∙ c.if-considered_bit-eq0.true)) c.requires.fact.0

pub seed_node-requires : goal.seed_node-requires
seed_node-requires c = record { laid = (c.requires.laid.0, c.requires.laid.1, and_left (is_inner (net_circuit c.args.net.now) c.args.n) _ (bit_some (is_considered (net_circuit c.args.net.now) c.args.only c.args.n) (λ e. c.if-considered_bit-eq0.false (c.considered_bit.ensures ∙ e)))); fact = c.requires.fact }

pub shape_of-letter : goal.shape_of-letter
shape_of-letter c = omega (arith, c.seed_node.auto.letter)

pub shape_of-low : goal.shape_of-low
shape_of-low c = omega (arith, c.seed_node.auto.low)

pub shape_of-high : goal.shape_of-high
shape_of-high c = omega (arith, c.seed_node.auto.high)

pub shape_of-index : goal.shape_of-index
shape_of-index c = omega (arith, c.seed_node.auto.index)

pub returns : goal.returns
returns c = seed_so (is_considered (net_circuit c.args.net.now) c.args.only c.args.n) (λ p. seed_by (net_circuit c.args.net.now) (λ m. one c.args.k (held c.args.letter.now c.args.low.now c.args.high.now c.args.used) (get_or c.args.changed m 0) p) c.args.n) (bit_some (is_considered (net_circuit c.args.net.now) c.args.only c.args.n) (λ e. c.if-considered_bit-eq0.false (c.considered_bit.ensures ∙ e))) c.seed_node.ensures
