-- `put_shown` meets its contract: the reading decides.
use native.Mathlib.Omega.{arith}
use Rattle.cell.proofs.Answers.{legal_counted, reading_legal}
use Rattle.fields.proofs.Shown.{file_refused, file_read}
use Rattle.fields.proofs.file.put_shown.Goals as goal

pub put_records-requires : goal.put_records-requires
put_records-requires c =
    (legal_counted c.in-Ok.cell (reading_legal c.args.file.now c.read.result c.read.ensures c.in-Ok.cell c.in-Ok.is), c.requires)

pub returns-in-Ok : goal.returns-in-Ok
returns-in-Ok c = rw (file_read c.args.file.now c.read.result c.in-Ok.cell c.read.ensures c.in-Ok.is) c.put_records.ensures

pub returns-in-Err : goal.returns-in-Err
returns-in-Err c =
    let w = c.put_refused.ensures in
    rw (file_refused c.args.file.now c.read.result c.in-Err.why c.read.ensures c.in-Err.is) (record { wrote = w.wrote; short = omega (arith, w.short) })
