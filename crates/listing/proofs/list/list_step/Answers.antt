-- `list_step` meets its contract: what the call leaves can be read, and what is written of it is what the definitions list. Assumes nothing.
use Rattle.format.specs.Legal.{check_circuit}
use Rattle.diagram.specs.Call.{columns}
use Rattle.cell.specs.Value.{circuit_of}
use Rattle.cell.proofs.Check.{header_kept}
use Rattle.advance.specs.Task.{run_in}
use Rattle.listing.proofs.Holding.{step_holds}
use Rattle.listing.proofs.Done.{done_entries, listed_step}
use Rattle.listing.proofs.list.list_step.Goals as goal

pub put_stepped-end-requires : goal.put_stepped-end-requires
put_stepped-end-requires c = (done_entries (header_kept c.args.cell) (λ m e. step_holds (circuit_of c.args.cell) (columns c.args.letter.now c.args.low.now c.args.high.now) (columns c.args.wletter.now c.args.wlow.now c.args.whigh.now) (run_in (check_circuit (circuit_of c.args.cell)) c.args.r) m e) c.on_cell-run.ensures, c.requires)

pub returns : goal.returns
returns c = listed_step (header_kept c.args.cell) (λ m e. step_holds (circuit_of c.args.cell) (columns c.args.letter.now c.args.low.now c.args.high.now) (columns c.args.wletter.now c.args.wlow.now c.args.whigh.now) (run_in (check_circuit (circuit_of c.args.cell)) c.args.r) m e) c.on_cell-run.ensures c.requires c.args.r.time c.args.steps c.args.r.values c.put_stepped-end.ensures
