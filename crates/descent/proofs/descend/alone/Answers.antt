-- `alone`: all places are listed, and the memo is empty.
use Rattle.descent.proofs.Listed.{live_all}
use Rattle.descent.proofs.Remember.{memo_new}
use Rattle.descent.proofs.descend.alone.Goals as goal

pub down-requires : goal.down-requires
down-requires c = record { rooted = c.requires.rooted; live = live_all c.requires.rooted.long c.all_places-live.ensures.0 c.all_places-live.ensures.1; fact = c.requires.fact; memo = memo_new _ }
