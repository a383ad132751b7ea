-- `read` of Entry meets its contract.
use Rattle.format.specs.File.{entry_at}
use Rattle.records.proofs.kinds.EntryFileRecord.read.Goals as goal

pub returns : goal.returns
unfolding entry_at
returns c = cc
