use mathlib.Core.Path.{sym, ◌∙◌}
use native.Mathlib.Omega.{arith}
use Rattle.functions.proofs.Halving.{low_full, low_open, high_full, high_holds, root_done}
use Rattle.working.proofs.Grow.{open_sound, bring_room, bring_low, bring_high}
use Rattle.descent.proofs.Pending.{quiet_leaf, quiet_halves}
use Rattle.descent.proofs.quiet.+quiet.Goals as goal

pub returns-then-m : goal.returns-then-m
returns-then-m t c = quiet_leaf c.requires.legible.0 c.requires.legible.1 c.args.time _ c.pending_after-v.ensures c.if-m.true c.add.ensures

pub overflow_sub-left : goal.overflow_sub-left
overflow_sub-left t c = bring_room c.requires.legible.0 c.requires.legible.1 c.if-m.false

pub quiet-p-requires : goal.quiet-p-requires
quiet-p-requires t c = (omega (arith, c.decreases, bring_room c.requires.legible.0 c.requires.legible.1 c.if-m.false), ((c.requires.legible.0, bring_low c.requires.legible.0 c.requires.legible.1 c.if-m.false), c.requires.fact))

pub returns-then-stopped : goal.returns-then-stopped
returns-then-stopped t c = low_full c.requires.fact (quiet_halves c.requires.legible.0 c.requires.legible.1 c.args.time c.if-m.false _ (open_sound c.requires.fact)) c.quiet-p.ensures (sym c.stopped.ensures ∙ c.if-stopped.true)

pub overflow_sub-left-2 : goal.overflow_sub-left-2
overflow_sub-left-2 t c = bring_room c.requires.legible.0 c.requires.legible.1 c.if-m.false

pub quiet-q-requires : goal.quiet-q-requires
quiet-q-requires t c = (omega (arith, c.decreases, bring_room c.requires.legible.0 c.requires.legible.1 c.if-m.false), ((c.requires.legible.0, bring_high c.requires.legible.0 c.requires.legible.1 c.if-m.false), low_open c.requires.fact (quiet_halves c.requires.legible.0 c.requires.legible.1 c.args.time c.if-m.false _ (open_sound c.requires.fact)) c.quiet-p.ensures (sym c.stopped.ensures ∙ c.if-stopped.false)))

pub returns-then-stopped-2 : goal.returns-then-stopped-2
returns-then-stopped-2 t c = high_full c.requires.fact (quiet_halves c.requires.legible.0 c.requires.legible.1 c.args.time c.if-m.false _ (open_sound c.requires.fact)) c.quiet-p.ensures (sym c.stopped.ensures ∙ c.if-stopped.false) c.quiet-q.ensures (sym c.stopped-2.ensures ∙ c.if-stopped-2.true)

pub join-requires : goal.join-requires
join-requires t c = high_holds c.requires.fact (quiet_halves c.requires.legible.0 c.requires.legible.1 c.args.time c.if-m.false _ (open_sound c.requires.fact)) c.quiet-p.ensures (sym c.stopped.ensures ∙ c.if-stopped.false) c.quiet-q.ensures (sym c.stopped-2.ensures ∙ c.if-stopped-2.false)

pub returns : goal.returns
returns t c = root_done c.requires.fact (quiet_halves c.requires.legible.0 c.requires.legible.1 c.args.time c.if-m.false _ (open_sound c.requires.fact)) c.quiet-p.ensures (sym c.stopped.ensures ∙ c.if-stopped.false) c.quiet-q.ensures (sym c.stopped-2.ensures ∙ c.if-stopped-2.false) c.join.ensures
