-- `sts_save` hands over what `save_file` answers.
use Rattle.editor.proofs.SaveCell.{save_call}
use Rattle.editor.proofs.saves.sts_save.Goals as goal

pub returns : goal.returns
returns c =
    let s = c.save_file-saving in
    let n = c.give_number.ensures in
    save_call _ s.result s.ensures n.0 n.1
