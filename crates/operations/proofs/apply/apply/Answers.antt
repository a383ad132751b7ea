-- `apply`: with a cleared cache.
use native.Mathlib.Omega.{arith}
use Rattle.functions.proofs.Known.{caches_none}
use Rattle.operations.proofs.apply.apply.Goals as goal

pub apply_in-requires : goal.apply_in-requires
apply_in-requires c = record { fact = c.requires.fact; operand = c.requires.operand; caches = caches_none 512 (omega arith) }

pub returns : goal.returns
returns c = c.apply_in.ensures.outcome
