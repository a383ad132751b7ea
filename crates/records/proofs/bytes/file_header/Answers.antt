-- `file_header` meets its contract.
use Rattle.format.specs.File.{file_header}
use Rattle.records.proofs.bytes.file_header.Goals as goal

pub returns : goal.returns
unfolding file_header
returns c = cc
