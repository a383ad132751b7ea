-- `is_blank` of Transistor meets its contract.
use Rattle.format.specs.File.{transistor_blank}
use Rattle.records.proofs.kinds.TransistorFileRecord.is_blank.Goals as goal

pub returns-then-zero_bytes : goal.returns-then-zero_bytes
unfolding transistor_blank
returns-then-zero_bytes c = rw (← c.record_at-i.ensures, ← c.zero_bytes.ensures, c.if-zero_bytes.true) c.zero_bytes-then-zero_bytes.ensures

pub returns-else-zero_bytes : goal.returns-else-zero_bytes
unfolding transistor_blank
returns-else-zero_bytes c = rw (← c.record_at-i.ensures, ← c.zero_bytes.ensures, c.if-zero_bytes.false)
