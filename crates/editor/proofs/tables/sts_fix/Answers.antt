-- `sts_fix` hands over what the call below it answers.
use Rattle.editor.proofs.Handed.{stored_call}
use Rattle.editor.proofs.tables.sts_fix.Goals as goal

pub returns : goal.returns
returns c = stored_call _ _ _ c.store-s.ensures c.give_stored.ensures
