-- Entries differ, so the place in the bucket is the first.
use Rattle.table.proofs.Outcomes.{sought_find}
use Rattle.table.proofs.find.Goals as goal

pub returns : goal.returns
returns c =
    let s = c.requires in
    sought_find _ _ _ _ _ _ s.ready.sized.low_long s.ready.sized.high_long s.ready.fits s.apart c.seek.ensures
