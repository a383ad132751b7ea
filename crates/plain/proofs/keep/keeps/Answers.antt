-- `keep::keeps` meets its contract. Assumes nothing.
use Prim.Native.Nat.{◌+◌}
use lib.ListN.{get_or}
use mathlib.Core.Path.{ap₂}
use mathlib.Core.Bool.{Bool, not, ◌&&◌}
use lib.Dec.{eqb}
use native.Mathlib.Omega.{arith}
use Rattle.plain.proofs.keep.keeps.Goals as goal

pub overflow_cast-one : goal.overflow_cast-one
overflow_cast-one c =
    let t = c.requires.laid.within.transistor c.args.i c.requires.values_len.2 in
    let few = c.requires.laid.within.nodes in
    omega (arith, t.first)

pub offset_bounds-labels-first : goal.offset_bounds-labels-first
offset_bounds-labels-first c =
    let t = c.requires.laid.within.transistor c.args.i c.requires.values_len.2 in
    let few = c.requires.laid.within.nodes in
    omega (arith, t.first)

pub bounds-labels-first : goal.bounds-labels-first
bounds-labels-first c =
    let t = c.requires.laid.within.transistor c.args.i c.requires.values_len.2 in
    let few = c.requires.laid.within.nodes in
    omega (arith, t.first, c.requires.values_len.1)

pub overflow_cast-other : goal.overflow_cast-other
overflow_cast-other c =
    let t = c.requires.laid.within.transistor c.args.i c.requires.values_len.2 in
    let few = c.requires.laid.within.nodes in
    omega (arith, t.second)

pub offset_bounds-labels-second : goal.offset_bounds-labels-second
offset_bounds-labels-second c =
    let t = c.requires.laid.within.transistor c.args.i c.requires.values_len.2 in
    let few = c.requires.laid.within.nodes in
    omega (arith, t.second)

pub bounds-labels-second : goal.bounds-labels-second
bounds-labels-second c =
    let t = c.requires.laid.within.transistor c.args.i c.requires.values_len.2 in
    let few = c.requires.laid.within.nodes in
    omega (arith, t.second, c.requires.values_len.1)

pub returns : goal.returns
returns c =
    let net = c.args.net.now in
    let labels = c.args.labels.now in
    ap₂ (λ (a b : Bool). a && not (b && eqb (get_or labels (get_or net (208 + c.args.i) 0) 0) (get_or labels (get_or net (272 + c.args.i) 0) 0))) c.conducts.ensures c.between_inner.ensures
