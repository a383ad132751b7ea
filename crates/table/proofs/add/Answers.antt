-- What is found is answered; what is not is written at the used count and linked, where there is room.
use native.Mathlib.Omega.{arith}
use Rattle.table.proofs.Outcomes.{outcome_found, outcome_new, outcome_full}
use Rattle.table.proofs.add.Goals as goal

pub returns-then-at-used : goal.returns-then-at-used
returns-then-at-used c = outcome_found c.requires _ _ c.find-at.ensures c.if-at-used.true

pub returns-then-n-letter : goal.returns-then-n-letter
returns-then-n-letter c = rw c.link.ensures (outcome_new c.requires _ _ _ _ _ c.find-at.ensures c.if-at-used.false (omega (arith, c.if-n-letter.true)) c.bucket-head.ensures.0 c.bucket-head.ensures.1)

pub returns : goal.returns
returns c = outcome_full c.requires _ _ _ c.find-at.ensures c.if-at-used.false (omega arith)
