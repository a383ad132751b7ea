-- `touch::in_piece` meets its contract. Assumes nothing.
use mathlib.Core.Path.{ap}
use mathlib.Core.Bool.{Bool, ◌&&◌}
use lib.Dec.{eqb}
use lib.ListN.{get_or}
use Rattle.plain.proofs.touch.in_piece.Goals as goal

pub returns : goal.returns
returns c =
    let labels = c.args.labels.now in
    ap (λ (b : Bool). b && eqb (get_or labels c.args.n 0) (get_or labels c.args.m 0)) c.is_inner.ensures
