-- `list_start` meets its contract: what the call leaves can be read, and what is written of it is what the definitions list. Assumes nothing.
use Rattle.diagram.specs.Call.{columns}
use Rattle.cell.specs.Value.{circuit_of}
use Rattle.cell.proofs.Check.{header_kept}
use Rattle.listing.proofs.Holding.{start_holds}
use Rattle.listing.proofs.Done.{done_entries, listed_start}
use Rattle.listing.proofs.list.list_start.Goals as goal

pub put_started-end-requires : goal.put_started-end-requires
put_started-end-requires c = (done_entries (header_kept c.args.cell) (λ m e. start_holds (circuit_of c.args.cell) (columns c.args.letter.now c.args.low.now c.args.high.now) (columns c.args.wletter.now c.args.wlow.now c.args.whigh.now) c.args.used m e) c.on_cell-run.ensures, c.requires)

pub returns : goal.returns
returns c = listed_start (header_kept c.args.cell) (λ m e. start_holds (circuit_of c.args.cell) (columns c.args.letter.now c.args.low.now c.args.high.now) (columns c.args.wletter.now c.args.wlow.now c.args.whigh.now) c.args.used m e) c.on_cell-run.ensures c.requires c.put_started-end.ensures
