-- `ask_legal` meets its contract: the cell is laid out, and the index is the first part of an array of zeros. Assumes nothing.
use mathlib.Core.Path.{sym}
use Rattle.diagram.proofs.Columns.{lengths_record}
use Rattle.diagram.specs.Call.{columns}
use Rattle.table.proofs.Entering.{part_long, part_ready}
use Rattle.net.proofs.Laying.{laid_own}
use Rattle.run.proofs.ask.ask_legal.Goals as goal

pub index_len-m-requires : goal.index_len-m-requires
index_len-m-requires c = (lengths_record (columns c.args.letter.now c.args.low.now c.args.high.now) c.requires.1).most

pub slice_bounds-ask_open-end-2 : goal.slice_bounds-ask_open-end-2
slice_bounds-ask_open-end-2 c = sym (part_long c.index_len-m.result 131072 c.index_len-m.ensures.most)

pub ask_open-requires : goal.ask_open-requires
ask_open-requires c =
    let ready = part_ready c.args.letter.now c.args.low.now c.args.high.now c.index_len-m.result 131072 c.requires.1 c.index_len-m.ensures c.index_len-m.ensures.most in
    (laid_own c.lay-net.ensures, c.requires.1, ready.0, ready.1)

pub returns : goal.returns
returns c = rw c.lay-net.ensures.circuit at c.ask_open.ensures
