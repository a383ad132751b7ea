-- `read` of Node meets its contract.
use Rattle.format.specs.File.{node_at}
use Rattle.records.proofs.kinds.NodeFileRecord.read.Goals as goal

pub returns : goal.returns
unfolding node_at
returns c = cc
