-- `on_legal` meets its contract: the cell is laid out, the index is the first part of an array of zeros, that of working a whole one, and working is cleared. Assumes nothing.
use mathlib.Core.Path.{sym}
use Prim.Native.Nat.{ℕ}
use native.Mathlib.Omega.{arith}
use lib.ListN.{length-replicate}
use Rattle.diagram.proofs.Columns.{lengths_record}
use Rattle.diagram.specs.Call.{columns}
use Rattle.table.proofs.Entering.{part_long, part_ready}
use Rattle.net.proofs.Laying.{laid_own}
use Rattle.run.proofs.Ends.{working_lent, zeroed_all, done_went}
use Rattle.run.proofs.go.on_legal.Goals as goal

pub index_len-n-requires : goal.index_len-n-requires
index_len-n-requires c = (lengths_record (columns c.args.letter.now c.args.low.now c.args.high.now) c.requires.1).most

pub slice_bounds-advance-end-2 : goal.slice_bounds-advance-end-2
slice_bounds-advance-end-2 c = sym (part_long c.index_len-n.result 131072 c.index_len-n.ensures.most)

pub slice_bounds-advance-end-3 : goal.slice_bounds-advance-end-3
slice_bounds-advance-end-3 c = sym (length-replicate {A = ℕ} 32768 0)

pub advance-went-requires : goal.advance-went-requires
advance-went-requires c =
    let i = c.index_len-n in
    let ready = part_ready c.args.letter.now c.args.low.now c.args.high.now i.result 131072 c.requires.1 i.ensures i.ensures.most in
    record { laid = (laid_own c.lay-net.ensures, c.requires.1, c.requires.2); sized = (ready.0, ready.1, working_lent c.args.wletter.now c.args.wlow.now c.args.whigh.now c.requires.2) }

pub shape_of-wletter : goal.shape_of-wletter
shape_of-wletter c = omega (arith, c.advance-went.auto.wletter, c.clear.auto.letter)

pub shape_of-wlow : goal.shape_of-wlow
shape_of-wlow c = omega (arith, c.advance-went.auto.wlow, c.clear.auto.low)

pub shape_of-whigh : goal.shape_of-whigh
shape_of-whigh c = omega (arith, c.advance-went.auto.whigh, c.clear.auto.high)

pub returns : goal.returns
returns c =
    done_went c.args.task c.args.r c.lay-net.ensures.circuit c.requires.1 c.requires.2 c.advance-went.ensures
    (zeroed_all c.args.wletter.now c.args.wlow.now c.args.whigh.now c.advance-went.new.wletter c.advance-went.new.wlow c.advance-went.new.whigh (omega (arith, c.advance-went.auto.wletter)) (omega (arith, c.advance-went.auto.wlow)) (omega (arith, c.advance-went.auto.whigh)) c.clear.ensures)
