-- `sts_fresh` hands over what the call below it answers.
use Rattle.editor.proofs.Handed.{fresh_call_lem}
use Rattle.editor.proofs.tables.sts_fresh.Goals as goal

pub returns : goal.returns
returns c = fresh_call_lem c.fresh.ensures c.reply_number.ensures
