-- `on_replied` meets its contract: 8, the cell, and then the task. Assumes nothing.
use mathlib.Core.Path.{refl}
use borrow.Author.Tests.{not-true, not-false}
use Rattle.diagram.specs.Call.{columns}
use Rattle.cell.specs.Value.{cell_by}
use Rattle.run.proofs.Ends.{both_legal, zeroed_all, done_buffer, replied_refused}
use Rattle.run.proofs.go.on_replied.Goals as goal

pub returns-then-not-lengths : goal.returns-then-not-lengths
returns-then-not-lengths c = done_buffer (cell_by c.args.read) c.args.task (columns c.args.letter.now c.args.low.now c.args.high.now) c.args.r (columns c.args.wletter.now c.args.wlow.now c.args.whigh.now) c.lengths.ensures (not-true _ c.if-not-lengths.true-raw)

pub on_legal-requires : goal.on_legal-requires
on_legal-requires c =
    let long = both_legal (columns c.args.letter.now c.args.low.now c.args.high.now) (columns c.args.wletter.now c.args.wlow.now c.args.whigh.now) c.lengths.ensures (not-false _ c.if-not-lengths.false-raw) in
    (rw c.in-Ok.is at c.requires.legal, long.0, long.1)

pub returns-in-Ok : goal.returns-in-Ok
returns-in-Ok c = rw c.in-Ok.is c.on_legal.ensures

pub returns-in-Err : goal.returns-in-Err
returns-in-Err c =
    replied_refused c.requires c.in-Err.why c.in-Err.is c.args.task (columns c.args.letter.now c.args.low.now c.args.high.now) c.args.r (columns c.args.wletter.now c.args.wlow.now c.args.whigh.now) c.lengths.ensures (not-false _ c.if-not-lengths.false-raw)
    (zeroed_all c.args.wletter.now c.args.wlow.now c.args.whigh.now c.args.wletter.now c.args.wlow.now c.args.whigh.now refl refl refl c.clear.ensures)
