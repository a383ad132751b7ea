-- `lay` meets its contract. Assumes nothing.
use Rattle.cell.specs.Value.{circuit_of}
use Rattle.net.proofs.Whole.{fields_long, fields_within, fields_bare, arms_long, arms_within, laid}
use Rattle.net.proofs.lay.Goals as goal

pub put_arms-requires : goal.put_arms-requires
put_arms-requires c =
    let fields = c.put_fields in
    let cell = circuit_of c.args.cell in
    (fields_long cell fields.new.net c.requires fields.ensures, fields_within cell fields.new.net c.requires fields.ensures, fields_bare cell fields.new.net c.requires fields.ensures)

pub put_groups-requires : goal.put_groups-requires
put_groups-requires c =
    let fields = c.put_fields in
    let arms = c.put_arms in
    let cell = circuit_of c.args.cell in
    (arms_long cell fields.new.net c.requires fields.ensures arms.new.net arms.ensures, arms_within cell fields.new.net c.requires fields.ensures arms.new.net arms.ensures)

pub returns : goal.returns
returns c =
    let fields = c.put_fields in
    let arms = c.put_arms in
    let groups = c.put_groups in
    laid (circuit_of c.args.cell) fields.new.net c.requires fields.ensures arms.new.net arms.ensures groups.new.net groups.ensures
