-- `save_small` meets its contract.
use native.Mathlib.Omega.{arith}
use Rattle.cell.specs.Value.{circuit_of}
use Rattle.catalog.proofs.Places.{small_past, small_saved}
use Rattle.catalog.proofs.save_small.Goals as goal

pub returns-then-place-ge-CELLS : goal.returns-then-place-ge-CELLS
returns-then-place-ge-CELLS c = small_past c.args.out.now c.args.place (omega (arith, c.if-place-ge-CELLS.true))

pub returns : goal.returns
returns c =
    let k = c.cell_at-cell in
    small_saved c.args.out.now _ c.args.place (circuit_of k.result) k.ensures c.save_cell.ensures
