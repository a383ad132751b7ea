-- `start` meets its contract: the sources, then the next changes of all groups. Assumes nothing.
use mathlib.Core.Path.{refl, sym, ◌∙◌}
use Rattle.moment.proofs.Whole.{start_over, nodes_few, start_open, start_requires, start_pending, start_next}
use Rattle.moment.proofs.start.Goals as goal

pub sources-v-requires : goal.sources-v-requires
sources-v-requires c = (c.requires.0, c.requires.1)

pub returns-then-stopped : goal.returns-then-stopped
returns-then-stopped c = start_over c.requires.0 c.requires.1 c.sources-v.ensures (sym c.stopped.ensures ∙ c.if-stopped.true) _ c.nothing.ensures

pub by_number-now-requires : goal.by_number-now-requires
by_number-now-requires c = nodes_few c.requires.0 c.requires.1

pub changes-c-requires : goal.changes-c-requires
changes-c-requires c =
    let x = start_requires c.requires.0 c.requires.1 c.sources-v.ensures (sym c.stopped.ensures ∙ c.if-stopped.false) c.by_number-now.ensures in
    record { laid = (c.requires.0, start_open c.requires.0 c.requires.1 c.sources-v.ensures (sym c.stopped.ensures ∙ c.if-stopped.false) c.by_number-now.ensures, c.requires.2); value_entries = (x.0, x.1, x.2, start_pending c.requires.0 c.requires.1 c.sources-v.ensures (sym c.stopped.ensures ∙ c.if-stopped.false) c.by_number-now.ensures refl refl refl refl) }

pub returns : goal.returns
returns c = start_next c.requires.0 c.requires.1 c.sources-v.ensures (sym c.stopped.ensures ∙ c.if-stopped.false) c.by_number-now.ensures c.changes-c.ensures c.gathered.ensures
