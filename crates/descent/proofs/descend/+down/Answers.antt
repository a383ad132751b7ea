use mathlib.Core.Path.{refl, sym, ◌∙◌}
use native.Mathlib.Omega.{arith}
use Rattle.lists.proofs.Cases.{true_false}
use Rattle.net.specs.Roots.{pending_place}
use Rattle.functions.proofs.Halving.{low_open, high_full, high_holds, root_done}
use Rattle.descent.proofs.Listed.{live_zeros, half_live}
use Rattle.descent.proofs.Going.{zero_letter, zero_low, narrow_ready, ready_entries}
use Rattle.descent.proofs.Pending.{quiet_stored}
use Rattle.descent.proofs.Descent.{narrow_quiet, leaf_ready, leaf_stored, letter_left, letter_other, lows_ready, halves_stored, low_stopped, highs_ready}
use Rattle.descent.proofs.Remember.{memo_join}
use Rattle.descent.proofs.Recall.{stored_memo, stored_open, stored_small, kept_memo, hit_stored}
use Rattle.descent.proofs.descend.+down.Goals as goal

pub returns-then-not-some_seed : goal.returns-then-not-some_seed
returns-then-not-some_seed t c =
    let d = quiet_stored c.requires.rooted (c.some_seed.ensures.0 c.if-not-some_seed.true) c.args.time c.quiet.ensures in
    record { outcome = d; memo_2 = stored_memo c.requires.rooted c.args.time c.requires.fact d c.requires.memo }

pub narrow-total-requires : goal.narrow-total-requires
narrow-total-requires t c = record { inner = c.requires.rooted.node; live = (c.requires.live, live_zeros c.requires.live.places, refl) }

pub quiet-requires-then-not-some_seed-2 : goal.quiet-requires-then-not-some_seed-2
quiet-requires-then-not-some_seed-2 t c =
    let ready = narrow_ready c.requires.rooted c.narrow-total.ensures.narrowed in
    record { legible = (ready.working, ready.operand pending_place (omega arith)); fact = c.requires.fact }

pub returns-then-not-some_seed-2 : goal.returns-then-not-some_seed-2
returns-then-not-some_seed-2 t c =
    let d = narrow_quiet c.requires.rooted c.narrow-total.ensures.narrowed (c.some_seed-then-total-count.ensures.0 c.if-not-some_seed-2.true) c.args.time c.quiet-then-not-some_seed-2.ensures in
    record { outcome = d; memo_2 = stored_memo c.requires.rooted c.args.time c.requires.fact d c.requires.memo }

pub least_live-m-requires : goal.least_live-m-requires
least_live-m-requires t c = record { entries = (ready_entries (narrow_ready c.requires.rooted c.narrow-total.ensures.narrowed) _ refl, zero_letter c.requires.rooted.working); live = c.narrow-total.ensures.live_2 }

pub returns-then-old-ne0 : goal.returns-then-old-ne0
returns-then-old-ne0 t c = record { outcome = hit_stored c.requires.rooted c.args.time c.requires.fact c.narrow-total.ensures.narrowed c.requires.memo c.bucket-slot.ensures c.look-old.ensures c.if-old-ne0.true; memo_2 = λ _. c.requires.memo }

pub leaf-p-requires : goal.leaf-p-requires
leaf-p-requires t c = record { leaf_of = (leaf_ready c.requires.rooted c.narrow-total.ensures.narrowed c.least_live-m.ensures c.if-m.true, zero_low c.requires.rooted.working); live = c.narrow-total.ensures.live_2; holds = c.requires.fact.holds }

pub remember-requires : goal.remember-requires
remember-requires t c =
    let d = leaf_stored c.requires.rooted c.narrow-total.ensures.narrowed c.least_live-m.ensures c.if-m.true c.args.time c.leaf-p.ensures in
    record { slot_lt_slots = (c.bucket-slot.ensures, λ room. omega (arith, stored_small c.requires.rooted c.args.time c.requires.fact d room)); memo_length_in_bounds = (c.requires.memo.long, c.narrow-total.ensures.narrowed.long) }

pub returns-then-m : goal.returns-then-m
returns-then-m t c =
    let d = leaf_stored c.requires.rooted c.narrow-total.ensures.narrowed c.least_live-m.ensures c.if-m.true c.args.time c.leaf-p.ensures in
    rw c.remember.ensures.value (record { outcome = d; memo_2 = λ room. kept_memo c.requires.rooted c.args.time c.requires.fact d c.narrow-total.ensures.narrowed room (stored_memo c.requires.rooted c.args.time c.requires.fact d c.requires.memo room) (c.remember.ensures.remembered room) })

pub halve-requires : goal.halve-requires
halve-requires t c = record { entries = (ready_entries (narrow_ready c.requires.rooted c.narrow-total.ensures.narrowed) _ refl, c.requires.rooted.working.low_long, (letter_other c.requires.rooted c.narrow-total.ensures.narrowed c.least_live-m.ensures c.if-m.false)); live = (c.narrow-total.ensures.live_2, live_zeros c.narrow-total.ensures.live_2.places) }

pub overflow_sub-left : goal.overflow_sub-left
overflow_sub-left t c = letter_left c.requires.rooted c.narrow-total.ensures.narrowed c.least_live-m.ensures c.if-m.false

pub down-p-requires : goal.down-p-requires
down-p-requires t c = (omega (arith, c.decreases, letter_left c.requires.rooted c.narrow-total.ensures.narrowed c.least_live-m.ensures c.if-m.false), (lows_ready c.requires.rooted c.narrow-total.ensures.narrowed c.least_live-m.ensures c.if-m.false c.halve.ensures, (half_live c.narrow-total.ensures.live_2 (letter_other c.requires.rooted c.narrow-total.ensures.narrowed c.least_live-m.ensures c.if-m.false) c.halve.ensures, (c.requires.fact, c.requires.memo))))

pub returns-then-stopped : goal.returns-then-stopped
returns-then-stopped t c = record { outcome = low_stopped c.requires.rooted c.narrow-total.ensures.narrowed c.least_live-m.ensures c.if-m.false c.halve.ensures c.args.time c.requires.fact c.down-p.ensures.outcome (sym c.stopped.ensures ∙ c.if-stopped.true); memo_2 = λ e. true_false _ (sym c.stopped.ensures ∙ c.if-stopped.true) e }

pub halve-requires-2 : goal.halve-requires-2
halve-requires-2 t c = record { entries = (ready_entries (narrow_ready c.requires.rooted c.narrow-total.ensures.narrowed) _ refl, c.requires.rooted.working.high_long, (letter_other c.requires.rooted c.narrow-total.ensures.narrowed c.least_live-m.ensures c.if-m.false)); live = (c.narrow-total.ensures.live_2, half_live c.narrow-total.ensures.live_2 (letter_other c.requires.rooted c.narrow-total.ensures.narrowed c.least_live-m.ensures c.if-m.false) c.halve.ensures) }

pub overflow_sub-left-2 : goal.overflow_sub-left-2
overflow_sub-left-2 t c = letter_left c.requires.rooted c.narrow-total.ensures.narrowed c.least_live-m.ensures c.if-m.false

pub down-q-requires : goal.down-q-requires
down-q-requires t c = (omega (arith, c.decreases, letter_left c.requires.rooted c.narrow-total.ensures.narrowed c.least_live-m.ensures c.if-m.false), ((highs_ready c.requires.rooted c.narrow-total.ensures.narrowed c.least_live-m.ensures c.if-m.false c.halve-2.ensures), (half_live c.narrow-total.ensures.live_2 (letter_other c.requires.rooted c.narrow-total.ensures.narrowed c.least_live-m.ensures c.if-m.false) c.halve-2.ensures, ((low_open c.requires.fact (halves_stored c.requires.rooted c.narrow-total.ensures.narrowed c.least_live-m.ensures c.if-m.false c.halve.ensures c.halve-2.ensures c.args.time c.requires.fact) c.down-p.ensures.outcome (sym c.stopped.ensures ∙ c.if-stopped.false)), (c.down-p.ensures.memo_2 (sym c.stopped.ensures ∙ c.if-stopped.false))))))

pub returns-then-stopped-2 : goal.returns-then-stopped-2
returns-then-stopped-2 t c = record { outcome = high_full c.requires.fact (halves_stored c.requires.rooted c.narrow-total.ensures.narrowed c.least_live-m.ensures c.if-m.false c.halve.ensures c.halve-2.ensures c.args.time c.requires.fact) c.down-p.ensures.outcome (sym c.stopped.ensures ∙ c.if-stopped.false) c.down-q.ensures.outcome (sym c.stopped-2.ensures ∙ c.if-stopped-2.true); memo_2 = λ e. true_false _ (sym c.stopped-2.ensures ∙ c.if-stopped-2.true) e }

pub join-r-requires : goal.join-r-requires
join-r-requires t c = high_holds c.requires.fact (halves_stored c.requires.rooted c.narrow-total.ensures.narrowed c.least_live-m.ensures c.if-m.false c.halve.ensures c.halve-2.ensures c.args.time c.requires.fact) c.down-p.ensures.outcome (sym c.stopped.ensures ∙ c.if-stopped.false) c.down-q.ensures.outcome (sym c.stopped-2.ensures ∙ c.if-stopped-2.false)

pub remember-requires-2 : goal.remember-requires-2
remember-requires-2 t c = record { slot_lt_slots = (c.bucket-slot.ensures, λ room. omega (arith, stored_small c.requires.rooted c.args.time c.requires.fact (root_done c.requires.fact (halves_stored c.requires.rooted c.narrow-total.ensures.narrowed c.least_live-m.ensures c.if-m.false c.halve.ensures c.halve-2.ensures c.args.time c.requires.fact) c.down-p.ensures.outcome (sym c.stopped.ensures ∙ c.if-stopped.false) c.down-q.ensures.outcome (sym c.stopped-2.ensures ∙ c.if-stopped-2.false) c.join-r.ensures) room)); memo_length_in_bounds = ((c.down-q.ensures.memo_2 (sym c.stopped-2.ensures ∙ c.if-stopped-2.false)).long, c.narrow-total.ensures.narrowed.long) }

pub returns : goal.returns
returns t c =
    let d = (root_done c.requires.fact (halves_stored c.requires.rooted c.narrow-total.ensures.narrowed c.least_live-m.ensures c.if-m.false c.halve.ensures c.halve-2.ensures c.args.time c.requires.fact) c.down-p.ensures.outcome (sym c.stopped.ensures ∙ c.if-stopped.false) c.down-q.ensures.outcome (sym c.stopped-2.ensures ∙ c.if-stopped-2.false) c.join-r.ensures) in
    rw c.remember-2.ensures.value (record { outcome = d; memo_2 = λ room. kept_memo c.requires.rooted c.args.time c.requires.fact d c.narrow-total.ensures.narrowed room (memo_join (stored_open (highs_ready c.requires.rooted c.narrow-total.ensures.narrowed c.least_live-m.ensures c.if-m.false c.halve-2.ensures) c.args.time (low_open c.requires.fact (halves_stored c.requires.rooted c.narrow-total.ensures.narrowed c.least_live-m.ensures c.if-m.false c.halve.ensures c.halve-2.ensures c.args.time c.requires.fact) c.down-p.ensures.outcome (sym c.stopped.ensures ∙ c.if-stopped.false)) c.down-q.ensures.outcome (sym c.stopped-2.ensures ∙ c.if-stopped-2.false)) _ _ _ c.join-r.ensures room (c.down-q.ensures.memo_2 (sym c.stopped-2.ensures ∙ c.if-stopped-2.false))) (c.remember-2.ensures.remembered room) })
