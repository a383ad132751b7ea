-- `is_blank` of Entry meets its contract.
use Rattle.std.proofs.Common.{arith}
use Rattle.std.proofs.lemmas.Grind.{common_steps}
use Rattle.format.specs.File.{entry_blank}
use Rattle.records.proofs.kinds.EntryFileRecord.is_blank.Goals as goal
use Rattle.records.proofs.kinds.EntryFileRecord.is_blank.Goals.{then-zero_bytes, else-zero_bytes}

pub returns-then-zero_bytes-2 : goal.returns-then-zero_bytes-2
unfolding entry_blank
returns-then-zero_bytes-2 c =
    elim c.if-zero_bytes.branch [ then-zero_bytes w ↦ grind (arith, common_steps) | else-zero_bytes w ↦ grind (arith, common_steps) ]

pub returns-else-zero_bytes-2 : goal.returns-else-zero_bytes-2
unfolding entry_blank
returns-else-zero_bytes-2 c =
    elim c.if-zero_bytes.branch [ then-zero_bytes w ↦ grind (arith, common_steps) | else-zero_bytes w ↦ grind (arith, common_steps) ]
