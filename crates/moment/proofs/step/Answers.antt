-- `step` meets its contract: all of T, then the next changes. Assumes nothing.
use mathlib.Core.Path.{sym, ◌∙◌}
use Rattle.moment.proofs.Whole.{step_over, nodes_few, step_open, step_requires, step_pending, step_next}
use Rattle.moment.proofs.step.Goals as goal

pub arrive-v-requires : goal.arrive-v-requires
arrive-v-requires c = record { laid = (c.requires.laid.0, c.requires.laid.1); r_value = c.requires.r_value.0; leasts = c.requires.r_value.2 }

pub returns-then-stopped : goal.returns-then-stopped
returns-then-stopped c = step_over _ c.requires.laid.0 c.requires.laid.1 c.requires.r_value.0 c.requires.r_value.1 c.arrive-v.ensures (sym c.stopped.ensures ∙ c.if-stopped.true) _ c.nothing.ensures

pub by_number-requires : goal.by_number-requires
by_number-requires c = nodes_few c.requires.laid.0 c.requires.laid.1

pub by_number-requires-2 : goal.by_number-requires-2
by_number-requires-2 c = nodes_few c.requires.laid.0 c.requires.laid.1

pub by_number-requires-3 : goal.by_number-requires-3
by_number-requires-3 c = nodes_few c.requires.laid.0 c.requires.laid.1

pub changes-c-requires : goal.changes-c-requires
changes-c-requires c =
    let x = step_requires _ c.requires.laid.0 c.requires.laid.1 c.requires.r_value.0 c.requires.r_value.1 c.arrive-v.ensures (sym c.stopped.ensures ∙ c.if-stopped.false) c.by_number.ensures c.by_number-2.ensures c.by_number-3.ensures in
    record { laid = (c.requires.laid.0, step_open _ c.requires.laid.0 c.requires.laid.1 c.requires.r_value.0 c.requires.r_value.1 c.arrive-v.ensures (sym c.stopped.ensures ∙ c.if-stopped.false) c.by_number.ensures c.by_number-2.ensures c.by_number-3.ensures, c.requires.laid.2); value_entries = (x.0, x.1, x.2, step_pending _ c.requires.laid.0 c.requires.laid.1 c.requires.r_value.0 c.requires.r_value.1 c.arrive-v.ensures (sym c.stopped.ensures ∙ c.if-stopped.false) c.by_number.ensures c.by_number-2.ensures c.by_number-3.ensures c.requires.r_value.2) }

pub returns : goal.returns
returns c = step_next _ c.requires.laid.0 c.requires.laid.1 c.requires.r_value.0 c.requires.r_value.1 c.arrive-v.ensures (sym c.stopped.ensures ∙ c.if-stopped.false) c.by_number.ensures c.by_number-2.ensures c.by_number-3.ensures c.changes-c.ensures c.gathered.ensures
