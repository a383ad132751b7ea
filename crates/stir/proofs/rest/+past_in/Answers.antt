use mathlib.Core.Path.{refl, sym, ◌∙◌}
use native.Mathlib.Omega.{arith}
use Rattle.lists.proofs.Cases.{true_false}
use Rattle.functions.proofs.Halving.{low_full, low_open, low_operand, high_full, high_holds, root_done}
use Rattle.functions.proofs.Known.{caches_found, means_stored, stored_caches}
use Rattle.functions.proofs.Keeping.{high_within, root_caches}
use Rattle.working.proofs.Grow.{bring_room, bring_low, bring_high}
use Rattle.stir.proofs.Resting.{past_leaf, past_halves, past_stable}
use Rattle.stir.proofs.Leasting.{past_later, low_leasts, high_leasts}
use Rattle.stir.proofs.rest.+past_in.Goals as goal

pub bounds-least-i : goal.bounds-least-i
bounds-least-i t c = omega (arith, c.requires.fact.2.within)

pub returns-then-time-first : goal.returns-then-time-first
returns-then-time-first t c = record { outcome = past_later c.requires.fact.0 c.args.time c.args.e c.requires.fact.1.within c.requires.fact.2 c.if-time-first.true; caches_2 = λ _. c.requires.caches }

pub bounds-letter-i : goal.bounds-letter-i
bounds-letter-i t c = omega (arith, c.requires.fact.1.within, c.requires.fact.0.legible.fits)

pub bounds-low-i : goal.bounds-low-i
bounds-low-i t c = omega (arith, c.requires.fact.1.within, c.requires.fact.0.legible.fits, c.requires.fact.0.legible.low_long)

pub bounds-high-i : goal.bounds-high-i
bounds-high-i t c = omega (arith, c.requires.fact.1.within, c.requires.fact.0.legible.fits, c.requires.fact.0.legible.high_long)

pub add-requires : goal.add-requires
add-requires t c = c.requires.fact.0.holds

pub shape_of-letter-then-m : goal.shape_of-letter-then-m
shape_of-letter-then-m t c = omega (arith, c.add.auto.letter)

pub shape_of-low-then-m : goal.shape_of-low-then-m
shape_of-low-then-m t c = omega (arith, c.add.auto.low)

pub shape_of-high-then-m : goal.shape_of-high-then-m
shape_of-high-then-m t c = omega (arith, c.add.auto.high)

pub shape_of-index-then-m : goal.shape_of-index-then-m
shape_of-index-then-m t c = omega (arith, c.add.auto.index)

pub returns-then-m : goal.returns-then-m
returns-then-m t c =
    let d = past_leaf c.requires.fact.0 c.args.time c.requires.fact.1 _ c.pending_after-v.ensures c.if-m.true c.add.ensures in
    record { outcome = d; caches_2 = λ room. stored_caches c.requires.fact.0 _ d room (past_stable c.args.time) c.requires.caches }

pub look-old-requires : goal.look-old-requires
look-old-requires t c = c.requires.caches.long

pub returns-then-old-ne0 : goal.returns-then-old-ne0
returns-then-old-ne0 t c = record { outcome = means_stored c.requires.fact.0 ((caches_found c.requires.caches c.look-old.ensures).means c.if-old-ne0.true); caches_2 = λ _. c.requires.caches }

pub overflow_sub-left : goal.overflow_sub-left
overflow_sub-left t c = bring_room c.requires.fact.0.legible c.requires.fact.1 c.if-m.false

pub past_in-p-requires : goal.past_in-p-requires
past_in-p-requires t c = (omega (arith, c.decreases, bring_room c.requires.fact.0.legible c.requires.fact.1 c.if-m.false), ((c.requires.fact.0, bring_low c.requires.fact.0.legible c.requires.fact.1 c.if-m.false, low_leasts c.requires.fact.0 c.requires.fact.1 c.if-m.false c.requires.fact.2), c.requires.caches))

pub shape_of-letter-then-stopped : goal.shape_of-letter-then-stopped
shape_of-letter-then-stopped t c = omega (arith, c.past_in-p.auto.letter)

pub shape_of-low-then-stopped : goal.shape_of-low-then-stopped
shape_of-low-then-stopped t c = omega (arith, c.past_in-p.auto.low)

pub shape_of-high-then-stopped : goal.shape_of-high-then-stopped
shape_of-high-then-stopped t c = omega (arith, c.past_in-p.auto.high)

pub shape_of-index-then-stopped : goal.shape_of-index-then-stopped
shape_of-index-then-stopped t c = omega (arith, c.past_in-p.auto.index)

pub shape_of-cache-then-stopped : goal.shape_of-cache-then-stopped
shape_of-cache-then-stopped t c = omega (arith, c.past_in-p.auto.cache)

pub returns-then-stopped : goal.returns-then-stopped
returns-then-stopped t c = record { outcome = low_full c.requires.fact.0 (past_halves c.requires.fact.0 c.args.time c.requires.fact.1 c.if-m.false) c.past_in-p.ensures.outcome (sym c.stopped.ensures ∙ c.if-stopped.true); caches_2 = λ e. true_false _ (sym c.stopped.ensures ∙ c.if-stopped.true) e }

pub overflow_sub-left-2 : goal.overflow_sub-left-2
overflow_sub-left-2 t c = bring_room c.requires.fact.0.legible c.requires.fact.1 c.if-m.false

pub past_in-q-requires : goal.past_in-q-requires
past_in-q-requires t c = (omega (arith, c.decreases, bring_room c.requires.fact.0.legible c.requires.fact.1 c.if-m.false), ((low_open c.requires.fact.0 (past_halves c.requires.fact.0 c.args.time c.requires.fact.1 c.if-m.false) c.past_in-p.ensures.outcome (sym c.stopped.ensures ∙ c.if-stopped.false), low_operand c.requires.fact.0 (past_halves c.requires.fact.0 c.args.time c.requires.fact.1 c.if-m.false) c.past_in-p.ensures.outcome (sym c.stopped.ensures ∙ c.if-stopped.false) (bring_high c.requires.fact.0.legible c.requires.fact.1 c.if-m.false), high_leasts c.requires.fact.0 c.requires.fact.1 c.if-m.false c.requires.fact.2 _ c.past_in-p.ensures.outcome (sym c.stopped.ensures ∙ c.if-stopped.false)), c.past_in-p.ensures.caches_2 (sym c.stopped.ensures ∙ c.if-stopped.false)))

pub shape_of-letter-then-stopped-2 : goal.shape_of-letter-then-stopped-2
shape_of-letter-then-stopped-2 t c = omega (arith, c.past_in-q.auto.letter, c.past_in-p.auto.letter)

pub shape_of-low-then-stopped-2 : goal.shape_of-low-then-stopped-2
shape_of-low-then-stopped-2 t c = omega (arith, c.past_in-q.auto.low, c.past_in-p.auto.low)

pub shape_of-high-then-stopped-2 : goal.shape_of-high-then-stopped-2
shape_of-high-then-stopped-2 t c = omega (arith, c.past_in-q.auto.high, c.past_in-p.auto.high)

pub shape_of-index-then-stopped-2 : goal.shape_of-index-then-stopped-2
shape_of-index-then-stopped-2 t c = omega (arith, c.past_in-q.auto.index, c.past_in-p.auto.index)

pub shape_of-cache-then-stopped-2 : goal.shape_of-cache-then-stopped-2
shape_of-cache-then-stopped-2 t c = omega (arith, c.past_in-q.auto.cache, c.past_in-p.auto.cache)

pub returns-then-stopped-2 : goal.returns-then-stopped-2
returns-then-stopped-2 t c = record { outcome = high_full c.requires.fact.0 (past_halves c.requires.fact.0 c.args.time c.requires.fact.1 c.if-m.false) c.past_in-p.ensures.outcome (sym c.stopped.ensures ∙ c.if-stopped.false) c.past_in-q.ensures.outcome (sym c.stopped-2.ensures ∙ c.if-stopped-2.true); caches_2 = λ e. true_false _ (sym c.stopped-2.ensures ∙ c.if-stopped-2.true) e }

pub join_kept-requires : goal.join_kept-requires
join_kept-requires t c =
    let room = sym c.stopped.ensures ∙ c.if-stopped.false in
    let fits = sym c.stopped-2.ensures ∙ c.if-stopped-2.false in
    let halves = past_halves c.requires.fact.0 c.args.time c.requires.fact.1 c.if-m.false in
    record { holds = (high_holds c.requires.fact.0 halves c.past_in-p.ensures.outcome room c.past_in-q.ensures.outcome fits, high_within c.requires.fact.0 halves c.past_in-p.ensures.outcome room c.past_in-q.ensures.outcome fits); in_bounds = (c.past_in-q.ensures.caches_2 fits).long }

pub shape_of-letter : goal.shape_of-letter
shape_of-letter t c = omega (arith, c.join_kept.auto.letter, c.past_in-q.auto.letter, c.past_in-p.auto.letter)

pub shape_of-low : goal.shape_of-low
shape_of-low t c = omega (arith, c.join_kept.auto.low, c.past_in-q.auto.low, c.past_in-p.auto.low)

pub shape_of-high : goal.shape_of-high
shape_of-high t c = omega (arith, c.join_kept.auto.high, c.past_in-q.auto.high, c.past_in-p.auto.high)

pub shape_of-index : goal.shape_of-index
shape_of-index t c = omega (arith, c.join_kept.auto.index, c.past_in-q.auto.index, c.past_in-p.auto.index)

pub shape_of-cache : goal.shape_of-cache
shape_of-cache t c = omega (arith, c.join_kept.auto.cache, c.past_in-q.auto.cache, c.past_in-p.auto.cache)

pub returns : goal.returns
returns t c =
    let room = sym c.stopped.ensures ∙ c.if-stopped.false in
    let fits = sym c.stopped-2.ensures ∙ c.if-stopped-2.false in
    let halves = past_halves c.requires.fact.0 c.args.time c.requires.fact.1 c.if-m.false in
    let small = c.requires.fact.1.within in
    record { outcome = root_done c.requires.fact.0 halves c.past_in-p.ensures.outcome room c.past_in-q.ensures.outcome fits c.join_kept.ensures.outcome; caches_2 = root_caches c.requires.fact.0 halves c.past_in-p.ensures.outcome room c.past_in-q.ensures.outcome fits c.args.e 0 0 (past_stable c.args.time) small (omega arith) (omega arith) refl c.join_kept.ensures.outcome (c.past_in-q.ensures.caches_2 fits) c.join_kept.ensures.kept }
