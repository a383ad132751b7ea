-- `descend`: all places are listed, and every slot of the memo is free.
use native.Mathlib.Omega.{arith}
use Rattle.descent.proofs.Listed.{live_all}
use Rattle.descent.proofs.Remember.{memo_empty}
use Rattle.descent.proofs.descend.descend.Goals as goal

pub down-requires : goal.down-requires
down-requires c = record { rooted = c.requires.rooted; live = live_all c.requires.rooted.long c.all_places-live.ensures.0 c.all_places-live.ensures.1; fact = c.requires.fact; memo = memo_empty _ _ (omega arith) c.forget.ensures }
