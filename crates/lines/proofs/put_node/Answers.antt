-- `put_node` meets its contract: three numbers, each with a byte behind it. Assumes nothing.
use native.Mathlib.Omega.{arith}
use Rattle.lines.proofs.Pieces.{number_short, put_three}
use Rattle.lines.proofs.put_node.Goals as goal

pub put_spaced-node-requires : goal.put_spaced-node-requires
put_spaced-node-requires c = omega (arith, number_short c.args.time 32 c.ranges.time.fits, c.requires)

pub put_spaced-patterns-requires : goal.put_spaced-patterns-requires
put_spaced-patterns-requires c =
    let one = c.put_spaced-node in
    omega (arith, number_short c.args.time 32 c.ranges.time.fits, number_short c.args.n 32 c.ranges.n.fits, c.requires, one.ensures.end_is, one.auto.out)

pub put_ended-requires : goal.put_ended-requires
put_ended-requires c =
    let one = c.put_spaced-node in
    let two = c.put_spaced-patterns in
    omega (arith, number_short c.args.time 32 c.ranges.time.fits, number_short c.args.n 32 c.ranges.n.fits, number_short c.args.high 10 c.ranges.high.fits, c.requires, one.ensures.end_is, two.ensures.end_is, one.auto.out, two.auto.out)

pub returns : goal.returns
returns c =
    put_three 33 c.put_spaced-node.ensures c.put_spaced-patterns.ensures c.put_ended.ensures (omega (arith, c.requires))
    (omega (arith, number_short c.args.time 32 c.ranges.time.fits, number_short c.args.n 32 c.ranges.n.fits, number_short c.args.high 10 c.ranges.high.fits))
