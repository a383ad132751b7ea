-- `put_end` meets its contract: a word and two numbers. Assumes nothing.
use native.Mathlib.Omega.{arith}
use Rattle.lines.proofs.Pieces.{number_short, put_three}
use Rattle.lines.proofs.put_end.Goals as goal

pub put_spaced-count-requires : goal.put_spaced-count-requires
put_spaced-count-requires c =
    let one = c.put_bytes-reached in
    omega (arith, number_short c.args.time 32 c.ranges.time.fits, c.requires, one.ensures.end_is, one.auto.out)

pub put_ended-requires : goal.put_ended-requires
put_ended-requires c =
    let one = c.put_bytes-reached in
    let two = c.put_spaced-count in
    omega (arith, number_short c.args.time 32 c.ranges.time.fits, number_short c.args.steps 10 c.ranges.steps.fits, c.requires, one.ensures.end_is, two.ensures.end_is, one.auto.out, two.auto.out)

pub returns : goal.returns
returns c =
    put_three 792 c.put_bytes-reached.ensures c.put_spaced-count.ensures c.put_ended.ensures (omega (arith, c.requires))
    (omega (arith, number_short c.args.time 32 c.ranges.time.fits, number_short c.args.steps 10 c.ranges.steps.fits))
