-- `cell_at` meets its contract: one transistor, or two.
use native.Mathlib.Omega.{arith}
use Rattle.catalog.proofs.Places.{one_by, two_by}
use Rattle.catalog.proofs.cell_at.Goals as goal

pub returns-then-place-lt-TRANSISTORS : goal.returns-then-place-lt-TRANSISTORS
returns-then-place-lt-TRANSISTORS c =
    let t = c.transistor_at-only in
    one_by c.args.place t.result (omega (arith, c.if-place-lt-TRANSISTORS.true)) t.ensures c.cell_with.ensures

pub returns : goal.returns
returns c =
    let u = c.transistor_at-second in
    let t = c.transistor_at-first in
    two_by c.args.place t.result u.result (omega (arith, c.if-place-lt-TRANSISTORS.false)) c.requires t.ensures u.ensures c.cell_with-2.ensures
