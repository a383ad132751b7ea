-- `put_saved` meets its contract.
use Rattle.format.specs.File.{read_cell}
use Rattle.format.proofs.Read.{read_checked}
use Rattle.output.proofs.Buffers.{saving_prints}
use Rattle.save.proofs.put_saved.Goals as goal

pub returns : goal.returns
returns c =
    let file = c.args.file.now in
    let k = c.save_file-saving in
    let p = c.put_saving in
    saving_prints _ _ _ k.result p.result c.requires.0 p.ensures (read_cell file) (read_checked file) k.ensures
