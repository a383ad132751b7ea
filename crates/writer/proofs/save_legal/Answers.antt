-- `save_legal` meets its contract: the room decides.
use mathlib.Core.Path.{ap}
use native.Mathlib.Omega.{arith}
use lib.ListN.{length}
use Rattle.refusal.specs.declared.Refusal.TheVariants.{Buffer}
use Rattle.format.specs.File.{stated_length}
use Rattle.format.proofs.Saved.{saved_length, room_fits, room_short}
use Rattle.cell.specs.Value.{circuit_of}
use Rattle.cell.proofs.Check.{header_kept}
use Rattle.writer.proofs.Saves.{saves_refused, saves_written}
use Rattle.writer.proofs.save_legal.Goals as goal

pub returns-then-out-stated_length : goal.returns-then-out-stated_length
returns-then-out-stated_length c =
    let room = length c.args.out.now in
    let h = ap stated_length (header_kept c.args.cell) in
    saves_refused c.args.out.now _ Buffer (room_short room (circuit_of c.args.cell) (omega (arith, h, c.stated_length.ensures, c.if-out-stated_length.true)))

pub overflow_cast-result : goal.overflow_cast-result
overflow_cast-result c =
    let h = ap stated_length (header_kept c.args.cell) in
    omega (arith, h, saved_length (circuit_of c.args.cell), c.requires.nodes, c.requires.transistors, c.requires.entries, c.put_file-end.ensures.end_is)

pub returns : goal.returns
returns c =
    let room = length c.args.out.now in
    let h = ap stated_length (header_kept c.args.cell) in
    saves_written _ (room_fits room (circuit_of c.args.cell) (omega (arith, h, c.stated_length.ensures, c.if-out-stated_length.false))) c.put_file-end.ensures
