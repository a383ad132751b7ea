-- `second_end` meets its contract.
use native.Mathlib.Omega.{arith}
use Rattle.catalog.proofs.Places.{end_low, end_high}
use Rattle.catalog.proofs.second_end.Goals as goal

pub returns-then-place-first : goal.returns-then-place-first
returns-then-place-first c = (end_low c.args.first c.args.place c.requires.0 c.requires.1 (omega (arith, c.if-place-first.true)), omega (arith, c.requires.1))

pub returns : goal.returns
returns c = (end_high c.args.first c.args.place c.requires.0 c.requires.1 (omega (arith, c.if-place-first.false)), omega (arith, c.requires.1))
