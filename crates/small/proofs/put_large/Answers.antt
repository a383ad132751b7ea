-- `put_large` meets its contract.
use Rattle.small.proofs.Messages.{refusal_message}
use Rattle.small.proofs.put_large.Goals as goal

pub returns : goal.returns
returns c =
    let p = c.put_saving in
    refusal_message _ p.result p.ensures
