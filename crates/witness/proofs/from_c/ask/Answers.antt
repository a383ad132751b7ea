-- `ask` asks what the demands speak of. Assumes nothing.
use Rattle.witness.proofs.Told.{asked_two}
use Rattle.witness.proofs.from_c.ask.Goals as goal

pub returns : goal.returns
returns c =
    let done = c.sts_ask in (_, c.requires, asked_two _ _ _ _ c.requires done.ensures)
