-- `put_place` meets its contract.
use Rattle.catalog.specs.Lists.{listed_at}
use Rattle.catalog.specs.Small.{small_cells}
use Rattle.catalog.proofs.Small.{small_shape}
use Rattle.output.proofs.Buffers.{saving_prints}
use Rattle.small.proofs.put_place.Goals as goal

pub returns : goal.returns
returns c =
    let place = c.args.place in
    let k = c.save_small-saving in
    let p = c.put_saving in
    saving_prints _ _ _ k.result p.result c.requires.0 p.ensures (listed_at small_cells place) (λ d e. (small_shape place d e).legal) k.ensures
