use mathlib.Core.Path.{sym, ◌∙◌}
use native.Mathlib.Omega.{arith}
use Rattle.lists.proofs.Cases.{true_false}
use Rattle.functions.proofs.Halving.{low_full, low_open, high_full, high_holds, root_done}
use Rattle.working.proofs.Grow.{open_sound, outcome_grown, grown_entry, bring_fixed, bring_leaf, bring_room, bring_low, bring_high, bring_halves}
use Rattle.working.proofs.Recall.{means_stored, known_found, known_grown, known_joined, known_kept}
use Rattle.working.proofs.lent.+bring_part.Goals as goal

pub returns-then-e-lt3 : goal.returns-then-e-lt3
returns-then-e-lt3 t c = record { outcome = means_stored c.requires.fact (bring_fixed c.requires.legible.0 c.requires.legible.1 (open_sound c.requires.fact) c.if-e-lt3.true); known_2 = λ _. c.requires.known }

pub bounds-tletter-i : goal.bounds-tletter-i
bounds-tletter-i t c = omega (arith, c.requires.legible.1.within, c.requires.legible.0.fits)

pub bounds-tlow-i : goal.bounds-tlow-i
bounds-tlow-i t c = omega (arith, c.requires.legible.1.within, c.requires.legible.0.fits, c.requires.legible.0.low_long)

pub bounds-thigh-i : goal.bounds-thigh-i
bounds-thigh-i t c = omega (arith, c.requires.legible.1.within, c.requires.legible.0.fits, c.requires.legible.0.high_long)

pub add-requires : goal.add-requires
add-requires t c = c.requires.fact.holds

pub shape_of-letter-then-m : goal.shape_of-letter-then-m
shape_of-letter-then-m t c = omega (arith, c.add.auto.letter)

pub shape_of-low-then-m : goal.shape_of-low-then-m
shape_of-low-then-m t c = omega (arith, c.add.auto.low)

pub shape_of-high-then-m : goal.shape_of-high-then-m
shape_of-high-then-m t c = omega (arith, c.add.auto.high)

pub shape_of-index-then-m : goal.shape_of-index-then-m
shape_of-index-then-m t c = omega (arith, c.add.auto.index)

pub returns-then-m : goal.returns-then-m
returns-then-m t c =
    let d = bring_leaf c.requires.legible.0 c.requires.legible.1 c.if-m.true c.add.ensures in
    record { outcome = d; known_2 = λ z. known_grown c.requires.fact (outcome_grown c.requires.fact d) z c.requires.known }

pub look-old-requires : goal.look-old-requires
look-old-requires t c = c.requires.known.long

pub returns-then-old-ne0 : goal.returns-then-old-ne0
returns-then-old-ne0 t c = record { outcome = known_found c.requires.fact c.requires.known c.look-old.ensures c.if-old-ne0.true; known_2 = λ _. c.requires.known }

pub overflow_sub-left : goal.overflow_sub-left
overflow_sub-left t c = bring_room c.requires.legible.0 c.requires.legible.1 c.if-m.false

pub bring_part-p-requires : goal.bring_part-p-requires
bring_part-p-requires t c = (omega (arith, c.decreases, bring_room c.requires.legible.0 c.requires.legible.1 c.if-m.false), ((c.requires.legible.0, bring_low c.requires.legible.0 c.requires.legible.1 c.if-m.false), (c.requires.fact, c.requires.known)))

pub shape_of-letter-then-stopped : goal.shape_of-letter-then-stopped
shape_of-letter-then-stopped t c = omega (arith, c.bring_part-p.auto.letter)

pub shape_of-low-then-stopped : goal.shape_of-low-then-stopped
shape_of-low-then-stopped t c = omega (arith, c.bring_part-p.auto.low)

pub shape_of-high-then-stopped : goal.shape_of-high-then-stopped
shape_of-high-then-stopped t c = omega (arith, c.bring_part-p.auto.high)

pub shape_of-index-then-stopped : goal.shape_of-index-then-stopped
shape_of-index-then-stopped t c = omega (arith, c.bring_part-p.auto.index)

pub shape_of-cache-then-stopped : goal.shape_of-cache-then-stopped
shape_of-cache-then-stopped t c = omega (arith, c.bring_part-p.auto.cache)

pub returns-then-stopped : goal.returns-then-stopped
returns-then-stopped t c = record { outcome = low_full c.requires.fact (bring_halves c.requires.legible.0 c.requires.legible.1 c.if-m.false _ (open_sound c.requires.fact)) c.bring_part-p.ensures.outcome (sym c.stopped.ensures ∙ c.if-stopped.true); known_2 = λ z. true_false _ (sym c.stopped.ensures ∙ c.if-stopped.true) z }

pub overflow_sub-left-2 : goal.overflow_sub-left-2
overflow_sub-left-2 t c = bring_room c.requires.legible.0 c.requires.legible.1 c.if-m.false

pub bring_part-q-requires : goal.bring_part-q-requires
bring_part-q-requires t c = (omega (arith, c.decreases, bring_room c.requires.legible.0 c.requires.legible.1 c.if-m.false), ((c.requires.legible.0, bring_high c.requires.legible.0 c.requires.legible.1 c.if-m.false), ((low_open c.requires.fact (bring_halves c.requires.legible.0 c.requires.legible.1 c.if-m.false _ (open_sound c.requires.fact)) c.bring_part-p.ensures.outcome (sym c.stopped.ensures ∙ c.if-stopped.false)), c.bring_part-p.ensures.known_2 (sym c.stopped.ensures ∙ c.if-stopped.false))))

pub shape_of-letter-then-stopped-2 : goal.shape_of-letter-then-stopped-2
shape_of-letter-then-stopped-2 t c = omega (arith, c.bring_part-p.auto.letter, c.bring_part-q.auto.letter)

pub shape_of-low-then-stopped-2 : goal.shape_of-low-then-stopped-2
shape_of-low-then-stopped-2 t c = omega (arith, c.bring_part-p.auto.low, c.bring_part-q.auto.low)

pub shape_of-high-then-stopped-2 : goal.shape_of-high-then-stopped-2
shape_of-high-then-stopped-2 t c = omega (arith, c.bring_part-p.auto.high, c.bring_part-q.auto.high)

pub shape_of-index-then-stopped-2 : goal.shape_of-index-then-stopped-2
shape_of-index-then-stopped-2 t c = omega (arith, c.bring_part-p.auto.index, c.bring_part-q.auto.index)

pub shape_of-cache-then-stopped-2 : goal.shape_of-cache-then-stopped-2
shape_of-cache-then-stopped-2 t c = omega (arith, c.bring_part-p.auto.cache, c.bring_part-q.auto.cache)

pub returns-then-stopped-2 : goal.returns-then-stopped-2
returns-then-stopped-2 t c = record { outcome = high_full c.requires.fact (bring_halves c.requires.legible.0 c.requires.legible.1 c.if-m.false _ (open_sound c.requires.fact)) c.bring_part-p.ensures.outcome (sym c.stopped.ensures ∙ c.if-stopped.false) c.bring_part-q.ensures.outcome (sym c.stopped-2.ensures ∙ c.if-stopped-2.true); known_2 = λ z. true_false _ (sym c.stopped-2.ensures ∙ c.if-stopped-2.true) z }

pub join_kept-requires : goal.join_kept-requires
join_kept-requires t c = record { holds = (high_holds c.requires.fact (bring_halves c.requires.legible.0 c.requires.legible.1 c.if-m.false _ (open_sound c.requires.fact)) c.bring_part-p.ensures.outcome (sym c.stopped.ensures ∙ c.if-stopped.false) c.bring_part-q.ensures.outcome (sym c.stopped-2.ensures ∙ c.if-stopped-2.false), grown_entry (low_open c.requires.fact (bring_halves c.requires.legible.0 c.requires.legible.1 c.if-m.false _ (open_sound c.requires.fact)) c.bring_part-p.ensures.outcome (sym c.stopped.ensures ∙ c.if-stopped.false)) (outcome_grown (low_open c.requires.fact (bring_halves c.requires.legible.0 c.requires.legible.1 c.if-m.false _ (open_sound c.requires.fact)) c.bring_part-p.ensures.outcome (sym c.stopped.ensures ∙ c.if-stopped.false)) c.bring_part-q.ensures.outcome) (sym c.stopped-2.ensures ∙ c.if-stopped-2.false)); in_bounds = (c.bring_part-q.ensures.known_2 (sym c.stopped-2.ensures ∙ c.if-stopped-2.false)).long }

pub shape_of-letter : goal.shape_of-letter
shape_of-letter t c = omega (arith, c.bring_part-p.auto.letter, c.bring_part-q.auto.letter, c.join_kept.auto.letter)

pub shape_of-low : goal.shape_of-low
shape_of-low t c = omega (arith, c.bring_part-p.auto.low, c.bring_part-q.auto.low, c.join_kept.auto.low)

pub shape_of-high : goal.shape_of-high
shape_of-high t c = omega (arith, c.bring_part-p.auto.high, c.bring_part-q.auto.high, c.join_kept.auto.high)

pub shape_of-index : goal.shape_of-index
shape_of-index t c = omega (arith, c.bring_part-p.auto.index, c.bring_part-q.auto.index, c.join_kept.auto.index)

pub shape_of-cache : goal.shape_of-cache
shape_of-cache t c = omega (arith, c.bring_part-p.auto.cache, c.bring_part-q.auto.cache, c.join_kept.auto.cache)

pub returns : goal.returns
returns t c =
    let d = root_done c.requires.fact (bring_halves c.requires.legible.0 c.requires.legible.1 c.if-m.false _ (open_sound c.requires.fact)) c.bring_part-p.ensures.outcome (sym c.stopped.ensures ∙ c.if-stopped.false) c.bring_part-q.ensures.outcome (sym c.stopped-2.ensures ∙ c.if-stopped-2.false) c.join_kept.ensures.outcome in
    record { outcome = d; known_2 = λ z. known_kept c.requires.fact d z (known_joined ((outcome_grown (low_open c.requires.fact (bring_halves c.requires.legible.0 c.requires.legible.1 c.if-m.false _ (open_sound c.requires.fact)) c.bring_part-p.ensures.outcome (sym c.stopped.ensures ∙ c.if-stopped.false)) c.bring_part-q.ensures.outcome).opened (sym c.stopped-2.ensures ∙ c.if-stopped-2.false)) _ _ _ c.join_kept.ensures.outcome z (c.bring_part-q.ensures.known_2 (sym c.stopped-2.ensures ∙ c.if-stopped-2.false))) (c.join_kept.ensures.kept z) (omega (arith, c.join_kept.auto.cache)) }
