-- `by_numbers`: the first 26 numbers are the values before T, the next 26 those after it.
use mathlib.Core.Path.{sym}
use native.Mathlib.Omega.{arith}
use lib.Seq.{length-take-le}
use Rattle.evaluate.proofs.Numbers.{numbers_between, numbers_change}
use Rattle.evaluate.proofs.pattern.by_numbers.Goals as goal

pub bounds-numbers-52 : goal.bounds-numbers-52
bounds-numbers-52 c = omega (arith, c.requires.1.long)

pub slice_bounds-change-end : goal.slice_bounds-change-end
slice_bounds-change-end c = sym (length-take-le 26 c.args.numbers.now (omega (arith, c.requires.1.long)))

pub change-requires : goal.change-requires
change-requires c = (numbers_between c.requires.0 c.requires.1, c.requires.0.node)

pub returns : goal.returns
returns c = numbers_change c.requires.0 c.requires.1 c.args.time c.args.all _ c.change.ensures
