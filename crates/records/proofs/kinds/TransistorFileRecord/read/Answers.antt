-- `read` of Transistor meets its contract.
use Rattle.format.specs.File.{transistor_at}
use Rattle.records.proofs.kinds.TransistorFileRecord.read.Goals as goal

pub returns : goal.returns
unfolding transistor_at
returns c = cc
