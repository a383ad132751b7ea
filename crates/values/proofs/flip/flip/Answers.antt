-- `flip`: where all next changes are later the value stays, and else the cache is empty.
use native.Mathlib.Omega.{arith}
use Rattle.functions.proofs.Known.{caches_none}
use Rattle.values.proofs.Flipping.{flips_later}
use Rattle.values.proofs.flip.flip.Goals as goal

pub returns-then-time-least : goal.returns-then-time-least
returns-then-time-least c = flips_later c.requires.fact c.args.time c.args.a c.args.b c.requires.operand.0.within c.requires.leasts c.if-time-least.true

pub flip_in-requires : goal.flip_in-requires
flip_in-requires c = record { fact = c.requires.fact; operand = c.requires.operand; leasts = c.requires.leasts; caches = caches_none 512 (omega arith) }

pub returns : goal.returns
returns c = c.flip_in.ensures.outcome
