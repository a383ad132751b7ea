-- `links::note_loop` meets its contract. Assumes nothing.
use mathlib.Core.Path.{sym, ◌∙◌}
use native.Mathlib.Omega.{arith}
use borrow.Author.Tests.{not-true, not-false}
use Rattle.net.specs.Net.{net_transistor, net_circuit}
use Rattle.net.proofs.Joins.{noted_apart, noted_open, noted_closed}
use Rattle.net.proofs.links.note_loop.Goals as goal

pub overflow_cast-first-2 : goal.overflow_cast-first-2
overflow_cast-first-2 c =
    let t = c.requires.1.transistor c.args.i c.requires.2 in
    omega (arith, c.requires.0, c.requires.1.nodes, c.requires.1.transistors, c.requires.2, t.first, t.second)

pub overflow_cast-second-2 : goal.overflow_cast-second-2
overflow_cast-second-2 c =
    let t = c.requires.1.transistor c.args.i c.requires.2 in
    omega (arith, c.requires.0, c.requires.1.nodes, c.requires.1.transistors, c.requires.2, t.first, t.second)

pub returns-then-not-between_inner : goal.returns-then-not-between_inner
returns-then-not-between_inner c =
    noted_apart (net_circuit c.args.net.now) (net_transistor c.args.net.now c.args.i) c.args.i c.args.net.now (sym c.between_inner.ensures ∙ not-true _ c.if-not-between_inner.true-raw)

pub overflow_add-first-2 : goal.overflow_add-first-2
overflow_add-first-2 c =
    let t = c.requires.1.transistor c.args.i c.requires.2 in
    omega (arith, c.requires.0, c.requires.1.nodes, c.requires.1.transistors, c.requires.2, t.first, t.second)

pub offset_bounds-net-first : goal.offset_bounds-net-first
offset_bounds-net-first c =
    let t = c.requires.1.transistor c.args.i c.requires.2 in
    omega (arith, c.requires.0, c.requires.1.nodes, c.requires.1.transistors, c.requires.2, t.first, t.second)

pub bounds-net-first : goal.bounds-net-first
bounds-net-first c =
    let t = c.requires.1.transistor c.args.i c.requires.2 in
    omega (arith, c.requires.0, c.requires.1.nodes, c.requires.1.transistors, c.requires.2, t.first, t.second)

pub overflow_add-second-2 : goal.overflow_add-second-2
overflow_add-second-2 c =
    let t = c.requires.1.transistor c.args.i c.requires.2 in
    omega (arith, c.requires.0, c.requires.1.nodes, c.requires.1.transistors, c.requires.2, t.first, t.second)

pub offset_bounds-net-second : goal.offset_bounds-net-second
offset_bounds-net-second c =
    let t = c.requires.1.transistor c.args.i c.requires.2 in
    omega (arith, c.requires.0, c.requires.1.nodes, c.requires.1.transistors, c.requires.2, t.first, t.second)

pub bounds-net-second : goal.bounds-net-second
bounds-net-second c =
    let t = c.requires.1.transistor c.args.i c.requires.2 in
    omega (arith, c.requires.0, c.requires.1.nodes, c.requires.1.transistors, c.requires.2, t.first, t.second)

pub overflow_add-net : goal.overflow_add-net
overflow_add-net c =
    let t = c.requires.1.transistor c.args.i c.requires.2 in
    omega (arith, c.requires.0, c.requires.1.nodes, c.requires.1.transistors, c.requires.2, t.first, t.second)

pub bounds-net-2314 : goal.bounds-net-2314
bounds-net-2314 c =
    let t = c.requires.1.transistor c.args.i c.requires.2 in
    omega (arith, c.requires.0, c.requires.1.nodes, c.requires.1.transistors, c.requires.2, t.first, t.second)

pub returns-then-net-first : goal.returns-then-net-first
returns-then-net-first c =
    noted_closed (net_circuit c.args.net.now) (net_transistor c.args.net.now c.args.i) c.args.i c.args.net.now (sym c.between_inner.ensures ∙ not-false _ c.if-not-between_inner.false-raw) c.if-net-first.true

pub returns-else-net-first : goal.returns-else-net-first
returns-else-net-first c =
    noted_open (net_circuit c.args.net.now) (net_transistor c.args.net.now c.args.i) c.args.i c.args.net.now (sym c.between_inner.ensures ∙ not-false _ c.if-not-between_inner.false-raw) c.if-net-first.false
