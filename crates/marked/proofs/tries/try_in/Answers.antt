-- `try_in` meets its contract: by the roots of a prepared step, or nothing is stored. Assumes nothing.
use mathlib.Core.Path.{refl, sym, ◌∙◌}
use mathlib.Core.Bool.{true≢false}
use Prim.Native.Nat.{◌*◌}
use lib.ListN.{length}
use lib.Seq.{length-take-le}
use Rattle.attempt.proofs.First.{room_sized}
use Rattle.marked.proofs.Preparing.{before_used, after_used, pending_used, after_bits, step_roots}
use Rattle.marked.proofs.Mixing.{masked_entries, mixed_stored}
use Rattle.marked.proofs.tries.try_in.Goals as goal

pub slice_bounds-prepare-end-2 : goal.slice_bounds-prepare-end-2
slice_bounds-prepare-end-2 c = sym (length-take-le (2 * length c.args.wletter.now) c.args.windex.now c.requires.laid.2.room)

pub prepare-q-requires : goal.prepare-q-requires
prepare-q-requires c =
    let e = masked_entries c.requires.laid.0 c.requires.laid.1 (record { first = c.requires.value_entries.0; second = c.requires.value_entries.1; third = c.requires.value_entries.2 }) c.masked-left.ensures c.needed-need.ensures c.masked-was.ensures c.masked-is.ensures in
    record { laid = (c.requires.laid.0, c.requires.laid.1.legible, room_sized c.requires.laid.2); all_used = (before_used c.requires.laid.0 c.requires.laid.1 e, after_used c.requires.laid.0 c.requires.laid.1 e, pending_used c.requires.laid.0 c.requires.laid.1 e, after_bits c.requires.laid.0 c.requires.laid.1 e) }

pub returns-then-stopped : goal.returns-then-stopped
returns-then-stopped c = ((λ e. absurd (true≢false (sym e))), λ e. (refl, refl, refl, refl))

pub all_by_marks-many-requires : goal.all_by_marks-many-requires
all_by_marks-many-requires c = (step_roots c.requires.laid.0 c.requires.laid.1 (masked_entries c.requires.laid.0 c.requires.laid.1 (record { first = c.requires.value_entries.0; second = c.requires.value_entries.1; third = c.requires.value_entries.2 }) c.masked-left.ensures c.needed-need.ensures c.masked-was.ensures c.masked-is.ensures) (c.prepare-q.ensures.0 (sym c.stopped.ensures ∙ c.if-stopped.false)), c.requires.laid.1, c.requires.value_entries.2, c.requires.value_entries.4)

pub returns : goal.returns
returns c = ((λ e. mixed_stored c.requires.laid.0 c.requires.laid.1 (record { first = c.requires.value_entries.0; second = c.requires.value_entries.1; third = c.requires.value_entries.2 }) c.masked-left.ensures c.needed-need.ensures c.masked-was.ensures c.masked-is.ensures c.requires.value_entries.3 (c.prepare-q.ensures.0 (sym c.stopped.ensures ∙ c.if-stopped.false)) c.args.time c.all_by_marks-many.ensures), λ e. absurd (true≢false e))
