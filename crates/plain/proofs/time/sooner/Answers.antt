-- `sooner`: a time that is not after the present one is never.
use native.Mathlib.Omega.{arith}
use borrow.Author.Tests.{lt-ltb, le-ltb}
use Rattle.plain.proofs.time.sooner.Goals as goal

pub returns-then-present-time : goal.returns-then-present-time
returns-then-present-time c =
    let a = c.args in rw (lt-ltb a.present a.time c.if-present-time.true) c.min.ensures

pub returns : goal.returns
returns c = rw (le-ltb c.args.present c.args.time c.if-present-time.false) (omega (arith, c.ranges.other))
