use native.Mathlib.Omega.{arith}
use Rattle.std.proofs.iter.Serving.{serving}
use Rattle.descent.proofs.Listed.{taken_place}
use Rattle.descent.proofs.live.some_zero.Goals as goal

pub any-requires-clause-callable : goal.any-requires-clause-callable
any-requires-clause-callable c = grind (serving, arith, taken_place c.requires.places, c.iter.ensures.rest)
