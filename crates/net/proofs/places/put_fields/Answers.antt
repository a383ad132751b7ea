-- `places::put_fields` meets its contract. Assumes nothing.
use mathlib.Core.Path.{◌∙◌}
use Rattle.net.proofs.Laying.{legal_fits, fields_laid}
use Rattle.net.proofs.places.put_fields.Goals as goal

pub put_header-requires : goal.put_header-requires
put_header-requires c =
    (c.requires.0, (legal_fits c.args.cell c.requires.1).horizon)

pub put_nodes-requires : goal.put_nodes-requires
put_nodes-requires c =
    (c.put_header.auto.net ∙ c.requires.0, (legal_fits c.args.cell c.requires.1).nodes)

pub put_transistors-requires : goal.put_transistors-requires
put_transistors-requires c =
    (c.put_nodes.auto.net ∙ c.put_header.auto.net ∙ c.requires.0, (legal_fits c.args.cell c.requires.1).transistors)

pub put_entries-requires : goal.put_entries-requires
put_entries-requires c =
    let fits = legal_fits c.args.cell c.requires.1 in
    (c.put_transistors.auto.net ∙ c.put_nodes.auto.net ∙ c.put_header.auto.net ∙ c.requires.0, fits.entries, fits.times)

pub returns : goal.returns
returns c =
    let header = c.put_header in
    let nodes = c.put_nodes in
    let transistors = c.put_transistors in
    let entries = c.put_entries in
    fields_laid c.args.cell (legal_fits c.args.cell c.requires.1) c.args.net.now header.new.net nodes.new.net transistors.new.net entries.new.net c.requires.0
    header.ensures nodes.ensures transistors.ensures entries.ensures
