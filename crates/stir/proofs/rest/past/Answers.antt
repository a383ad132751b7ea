-- `past` meets its contract: an entry whose numbers are all later stays, and else the cache is empty. Assumes nothing.
use native.Mathlib.Omega.{arith}
use Rattle.functions.proofs.Known.{caches_none}
use Rattle.stir.proofs.Leasting.{past_later}
use Rattle.stir.proofs.rest.past.Goals as goal

pub bounds-least-i : goal.bounds-least-i
bounds-least-i c = omega (arith, c.requires.2.within)

pub returns-then-time-first : goal.returns-then-time-first
returns-then-time-first c = past_later c.requires.0 c.args.time c.args.e c.requires.1.within c.requires.2 c.if-time-first.true

pub past_in-requires : goal.past_in-requires
past_in-requires c = record { fact = c.requires; caches = caches_none 512 (omega arith) }

pub shape_of-letter : goal.shape_of-letter
shape_of-letter c = omega (arith, c.past_in.auto.letter)

pub shape_of-low : goal.shape_of-low
shape_of-low c = omega (arith, c.past_in.auto.low)

pub shape_of-high : goal.shape_of-high
shape_of-high c = omega (arith, c.past_in.auto.high)

pub shape_of-index : goal.shape_of-index
shape_of-index c = omega (arith, c.past_in.auto.index)

pub returns : goal.returns
returns c = c.past_in.ensures.outcome
