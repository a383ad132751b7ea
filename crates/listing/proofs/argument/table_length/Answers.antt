use mathlib.Core.Path.{◌∙◌, ap}
use Rattle.listing.specs.Argument.{parsed_length}
use Rattle.listing.proofs.Lengths.{length_as}
use Rattle.listing.proofs.argument.table_length.Goals as goal

pub returns-in-Ok : goal.returns-in-Ok
returns-in-Ok c = length_as (c.in_range.ensures ∙ ap parsed_length c.in-Ok.ensures)

pub returns-in-Err : goal.returns-in-Err
returns-in-Err c = length_as (ap parsed_length c.in-Err.ensures)
