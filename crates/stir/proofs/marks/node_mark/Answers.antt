-- `marks::node_mark` meets its contract: the label stands beside the nodes. Assumes nothing.
use mathlib.Core.Path.{refl, sym, ◌∙◌, ap}
use Prim.Native.Nat.{ℕ}
use native.Mathlib.Omega.{arith}
use lib.ListN.{get_or}
use borrow.Author.Tests.{not-true, not-false}
use Rattle.lists.proofs.Cases.{true_false}
use Rattle.rules.specs.State.{is_inner}
use Rattle.net.specs.Net.{net_circuit}
use Rattle.prepare.proofs.Reading.{laid_label}
use Rattle.stir.proofs.marks.node_mark.Goals as goal

pub returns-then-all : goal.returns-then-all
returns-then-all c = λ inner. rw c.if-all.true refl

pub overflow_cast-n : goal.overflow_cast-n
overflow_cast-n c = omega (arith, c.requires.1, c.requires.0.within.nodes)

pub is_inner-requires : goal.is_inner-requires
is_inner-requires c = (c.requires.0.long, c.requires.0.within, c.requires.1)

pub returns-then-not-is_inner : goal.returns-then-not-is_inner
returns-then-not-is_inner c = λ inner. true_false (is_inner (net_circuit c.args.net.now) c.args.n) inner (sym c.is_inner.ensures ∙ not-true _ c.if-not-is_inner.true-raw)

pub overflow_add-g : goal.overflow_add-g
overflow_add-g c = omega (arith, c.requires.1, c.requires.0.within.nodes)

pub offset_bounds-net-n : goal.offset_bounds-net-n
offset_bounds-net-n c = omega (arith, c.requires.1, c.requires.0.within.nodes)

pub bounds-net-n : goal.bounds-net-n
bounds-net-n c = omega (arith, c.requires.1, c.requires.0.within.nodes, c.requires.0.long)

pub overflow_cast-g : goal.overflow_cast-g
overflow_cast-g c = omega (arith, (laid_label _ c.requires.0 _ c.requires.1 (sym c.is_inner.ensures ∙ not-false _ c.if-not-is_inner.false-raw)).1)

pub offset_bounds-groups-g : goal.offset_bounds-groups-g
offset_bounds-groups-g c = omega (arith, (laid_label _ c.requires.0 _ c.requires.1 (sym c.is_inner.ensures ∙ not-false _ c.if-not-is_inner.false-raw)).1)

pub bounds-groups-g : goal.bounds-groups-g
bounds-groups-g c = (laid_label _ c.requires.0 _ c.requires.1 (sym c.is_inner.ensures ∙ not-false _ c.if-not-is_inner.false-raw)).1

pub returns : goal.returns
returns c = λ inner. rw c.if-all.false (ap (λ (x : ℕ). get_or c.args.groups x 0) (laid_label _ c.requires.0 _ c.requires.1 inner).0)
