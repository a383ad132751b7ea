-- `sts_count` hands over what the call below it answers.
use Rattle.editor.proofs.Handed.{told_call}
use Rattle.editor.proofs.tables.sts_count.Goals as goal

pub returns : goal.returns
returns c = told_call _ _ c.tell-t.ensures c.give_number.ensures
