-- `fix`: with a cleared cache.
use native.Mathlib.Omega.{arith}
use Rattle.functions.proofs.Known.{caches_none}
use Rattle.operations.proofs.fix.fix.Goals as goal

pub fix_in-requires : goal.fix_in-requires
fix_in-requires c = record { fact = c.requires.fact; operand = c.requires.operand; caches = caches_none 512 (omega arith) }

pub returns : goal.returns
returns c = c.fix_in.ensures.outcome
