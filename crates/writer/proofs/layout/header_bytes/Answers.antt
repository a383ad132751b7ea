-- `header_bytes` meets its contract: byte by byte.
use Rattle.format.specs.Saved.{header_bytes}
use Rattle.writer.proofs.Bytes.{top_byte}
use Rattle.writer.proofs.layout.header_bytes.Goals as goal

pub returns : goal.returns
unfolding header_bytes
returns c =
    rw (c.to_le_bytes-horizon.ensures, c.to_le_bytes-nodes.ensures, c.to_le_bytes-transistors.ensures, c.to_le_bytes-entries.ensures, c.first_from.ensures, c.first_from-2.ensures, c.first_from-3.ensures, top_byte)
