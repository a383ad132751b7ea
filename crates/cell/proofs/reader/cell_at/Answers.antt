-- `reader::cell_at` meets its contract: the arrays have the places that the header counts. Assumes nothing.
use mathlib.Core.Path.{◌≡◌}
use native.Mathlib.Omega.{arith}
use lib.ListN.{length}
use borrow.Author.Rules.{rules}
use Rattle.cell.proofs.Read.{cell_read}
use Rattle.cell.proofs.reader.cell_at.Goals as goal

pub returns : goal.returns
returns c =
    let k = c.requires.full.counted in
    let ln : length c.args.ns ≡ 64 = search rules in
    let lt : length c.args.ts ≡ 64 = search rules in
    let le : length c.args.es ≡ 64 = search rules in
    cell_read _ _ _ _ _ c.requires.full.header (omega arith) (omega arith) (omega arith)
    c.records_at.ensures c.records_at-2.ensures c.records_at-3.ensures
