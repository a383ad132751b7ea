-- `look`: the words of the slot are compared one by one.
use Rattle.cache.proofs.Results.{looked_none, looked_all}
use Rattle.cache.proofs.look.Goals as goal

pub returns-then-cache-at : goal.returns-then-cache-at
returns-then-cache-at c = looked_none

pub returns-then-cache-at-2 : goal.returns-then-cache-at-2
returns-then-cache-at-2 c = looked_none

pub returns-then-cache-at-3 : goal.returns-then-cache-at-3
returns-then-cache-at-3 c = looked_none

pub returns : goal.returns
returns c = looked_all c.slot-at.ensures c.if-cache-at.false c.if-cache-at-2.false c.if-cache-at-3.false
