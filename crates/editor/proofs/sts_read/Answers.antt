-- `sts_read`: the length of the header first, then the reader; the horizon of a cell that was read fits 32 bits.
use mathlib.Core.Path.{sym, ◌∙◌}
use native.Mathlib.Omega.{arith}
use Rattle.format.proofs.Legal.{legal_read}
use Rattle.refusal.specs.declared.Refusal.TheVariants.{Buffer}
use Rattle.cell.specs.Value.{circuit_of}
use Rattle.cell.proofs.Check.{header_kept}
use Rattle.cell.proofs.Answers.{reading_refused, reading_done}
use Rattle.editor.proofs.ReadCell.{wrong_length, right_length, call_refused, call_answered, header_numbers_lem}
use Rattle.editor.proofs.sts_read.Goals as goal

pub returns-then-header-ne5 : goal.returns-then-header-ne5
returns-then-header-ne5 c =
    let file = c.args.file.now in
    let header = c.args.header.now in
    let both = call_refused file header Buffer (wrong_length file header c.if-header-ne5.true) c.from.ensures in
    record { value = both.0; header_after = both.1 }

pub write_header-requires : goal.write_header-requires
write_header-requires c =
    let cell = c.in-Ok.cell in
    let found = reading_done c.args.file.now c.read.result c.read.ensures cell c.in-Ok.is in
    let limits = rw (header_kept cell) at (legal_read c.args.file.now (circuit_of cell) found).limits in
    (c.if-header-ne5.false, omega (arith, limits.most_horizon_lem))

pub returns-in-Ok : goal.returns-in-Ok
returns-in-Ok c =
    let file = c.args.file.now in
    let header = c.args.header.now in
    let cell = c.in-Ok.cell in
    let found = reading_done file c.read.result c.read.ensures cell c.in-Ok.is in
    let long = c.if-header-ne5.false in
    let both = call_answered file header (circuit_of cell) (right_length file header long ∙ found) (c.write_header.ensures ∙ header_numbers_lem cell.header (circuit_of cell) (sym (header_kept cell))) in
    record { value = both.0; header_after = both.1 }

pub returns-in-Err : goal.returns-in-Err
returns-in-Err c =
    let file = c.args.file.now in
    let header = c.args.header.now in
    let long = c.if-header-ne5.false in
    let both = call_refused file header c.in-Err.why (right_length file header long ∙ reading_refused file c.read.result c.read.ensures c.in-Err.why c.in-Err.is) c.from-in-Err.ensures in
    record { value = both.0; header_after = both.1 }
