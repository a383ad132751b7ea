-- `bytes` of Entry meets its contract: byte by byte.
use Rattle.format.specs.Saved.{entry_bytes}
use Rattle.writer.proofs.Bytes.{top_byte}
use Rattle.writer.proofs.layout.EntrySavedRecord.bytes.Goals as goal

pub returns : goal.returns
unfolding entry_bytes
returns c = rw (c.to_le_bytes-link.ensures, c.to_le_bytes-time.ensures, top_byte)
