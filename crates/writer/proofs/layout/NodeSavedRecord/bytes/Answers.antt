-- `bytes` of Node meets its contract: byte by byte.
use Rattle.format.specs.Saved.{node_bytes}
use Rattle.writer.proofs.layout.NodeSavedRecord.bytes.Goals as goal

pub returns : goal.returns
unfolding node_bytes
returns c = rw (c.to_le_bytes-link.ensures, c.to_le_bytes-capacitance.ensures)
