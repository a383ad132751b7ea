-- `keep`: the four words of the slot are written.
use native.Mathlib.Omega.{arith}
use lib.ListN.{length-set}
use Rattle.cache.proofs.Results.{kept_all}
use Rattle.cache.proofs.keep.Goals as goal

pub bounds-cache-at : goal.bounds-cache-at
bounds-cache-at c = omega (arith, c.slot-at.ensures.within)

pub bounds-cache-at-2 : goal.bounds-cache-at-2
bounds-cache-at-2 c = simp length-set (omega (arith, c.slot-at.ensures.within))

pub bounds-cache-at-3 : goal.bounds-cache-at-3
bounds-cache-at-3 c = simp length-set (omega (arith, c.slot-at.ensures.within))

pub bounds-cache-at-4 : goal.bounds-cache-at-4
bounds-cache-at-4 c = simp length-set (omega (arith, c.slot-at.ensures.within))

pub returns : goal.returns
returns c = kept_all c.slot-at.ensures
