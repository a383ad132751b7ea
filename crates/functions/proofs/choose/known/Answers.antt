-- `known`: what the cache has was found for the same entries.
use Rattle.functions.proofs.Known.{caches_found}
use Rattle.functions.proofs.choose.known.Goals as goal

pub at_once-e-requires : goal.at_once-e-requires
at_once-e-requires c = c.requires.legible

pub returns-then-e-ne0 : goal.returns-then-e-ne0
returns-then-e-ne0 c = record { found = c.at_once-e.ensures.found; fact = c.at_once-e.ensures.fact }

pub look-requires : goal.look-requires
look-requires c = c.requires.caches.long

pub returns : goal.returns
returns c = record { found = caches_found c.requires.caches c.look.ensures; fact = λ _. c.at_once-e.ensures.fact c.if-e-ne0.false }
