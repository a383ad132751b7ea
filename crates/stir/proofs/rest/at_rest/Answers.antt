-- `at_rest` meets its contract: an input has no next change. Assumes nothing.
use mathlib.Core.Path.{sym, ◌∙◌}
use borrow.Author.Tests.{not-true, not-false}
use native.Mathlib.Omega.{arith}
use Rattle.rules.specs.State.{is_inner}
use Rattle.net.specs.Net.{at, net_circuit}
use Rattle.stir.specs.Rest.{past_of}
use Rattle.stir.proofs.Single.{outer_put, inner_put}
use Rattle.diagram.specs.Held.{held}
use Rattle.stir.proofs.rest.at_rest.Goals as goal

pub is_inner-requires : goal.is_inner-requires
is_inner-requires c = (c.requires.0.long, c.requires.0.within, c.requires.1.most)

pub returns-then-not-is_inner : goal.returns-then-not-is_inner
returns-then-not-is_inner c = outer_put c.requires.2 (is_inner (net_circuit c.args.net.now) c.args.n) (past_of c.args.time (at c.args.net.now 3) (held c.args.letter.now c.args.low.now c.args.high.now c.args.used) c.args.e) (sym c.is_inner.ensures ∙ not-true _ c.if-not-is_inner.true-raw)

pub bounds-net-3 : goal.bounds-net-3
bounds-net-3 c = omega (arith, c.requires.0.long)

pub past-requires : goal.past-requires
past-requires c = (c.requires.2, record { within = c.requires.3; from = omega arith }, c.requires.4)

pub shape_of-letter : goal.shape_of-letter
shape_of-letter c = omega (arith, c.past.auto.letter)

pub shape_of-low : goal.shape_of-low
shape_of-low c = omega (arith, c.past.auto.low)

pub shape_of-high : goal.shape_of-high
shape_of-high c = omega (arith, c.past.auto.high)

pub shape_of-index : goal.shape_of-index
shape_of-index c = omega (arith, c.past.auto.index)

pub returns : goal.returns
returns c = inner_put (at c.args.net.now 3) (is_inner (net_circuit c.args.net.now) c.args.n) (past_of c.args.time (at c.args.net.now 3) (held c.args.letter.now c.args.low.now c.args.high.now c.args.used) c.args.e) (sym c.is_inner.ensures ∙ not-false _ c.if-not-is_inner.false-raw) c.past.ensures
