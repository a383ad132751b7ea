-- `bytes` of Transistor meets its contract: byte by byte.
use Rattle.format.specs.Saved.{transistor_bytes}
use Rattle.writer.proofs.Bytes.{top_byte}
use Rattle.writer.proofs.layout.TransistorSavedRecord.bytes.Goals as goal

pub returns : goal.returns
unfolding transistor_bytes
returns c = rw (c.to_le_bytes-link.ensures, c.to_le_bytes-resistance.ensures, top_byte)
