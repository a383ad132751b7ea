-- `keep::conducts` meets its contract. Assumes nothing.
use native.Mathlib.Omega.{arith}
use Rattle.plain.proofs.keep.conducts.Goals as goal

pub overflow_cast-result : goal.overflow_cast-result
overflow_cast-result c =
    let t = c.requires.laid.within.transistor c.args.i c.requires.values_len.1 in
    let few = c.requires.laid.within.nodes in
    omega (arith, t.gate)

pub offset_bounds-values-gate : goal.offset_bounds-values-gate
offset_bounds-values-gate c =
    let t = c.requires.laid.within.transistor c.args.i c.requires.values_len.1 in
    let few = c.requires.laid.within.nodes in
    omega (arith, t.gate)

pub bounds-values-gate : goal.bounds-values-gate
bounds-values-gate c =
    let t = c.requires.laid.within.transistor c.args.i c.requires.values_len.1 in
    let few = c.requires.laid.within.nodes in
    omega (arith, t.gate, c.requires.values_len.0)

pub overflow_sub-result : goal.overflow_sub-result
overflow_sub-result c = omega (arith, (c.requires.laid.within.transistor c.args.i c.requires.values_len.1).polarity)
