-- `transistor_at` meets its contract.
use Rattle.catalog.proofs.Places.{transistor_by}
use Rattle.catalog.proofs.transistor_at.Goals as goal

pub returns : goal.returns
returns c = transistor_by c.args.place c.second_end-second.result c.requires c.second_end-second.ensures.0
