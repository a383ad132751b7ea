-- `choose`: at once, or with a cleared cache.
use native.Mathlib.Omega.{arith}
use Rattle.functions.proofs.Known.{caches_none, means_stored}
use Rattle.functions.proofs.choose.choose.Goals as goal

pub at_once-e-requires : goal.at_once-e-requires
at_once-e-requires c = (c.requires.fact.legible, c.requires.operand.0.within, c.requires.operand.1.within, c.requires.operand.2.within)

pub returns-then-e-ne0 : goal.returns-then-e-ne0
returns-then-e-ne0 c = means_stored c.requires.fact (c.at_once-e.ensures.found.means c.if-e-ne0.true)

pub choose_in-requires : goal.choose_in-requires
choose_in-requires c = record { fact = c.requires.fact; operand = c.requires.operand; caches = caches_none 512 (omega arith) }

pub returns : goal.returns
returns c = c.choose_in.ensures.outcome
