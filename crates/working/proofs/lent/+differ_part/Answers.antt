use mathlib.Core.Path.{sym, ◌∙◌}
use native.Mathlib.Omega.{arith}
use Rattle.lists.proofs.Cases.{true_false}
use Rattle.functions.proofs.Halving.{low_full, low_open, high_full, high_holds, root_done}
use Rattle.working.proofs.Grow.{open_sound, outcome_grown, grown_entry}
use Rattle.working.proofs.Recall.{means_stored, known_found, known_joined, known_kept}
use Rattle.working.proofs.Changing.{differ_nowhere, differ_everywhere, differ_room, differ_first, differ_second, differ_halves}
use Rattle.working.proofs.lent.+differ_part.Goals as goal

pub returns-then-a-b : goal.returns-then-a-b
returns-then-a-b t c = record { outcome = means_stored c.requires.fact (differ_nowhere c.requires.legible.0 c.requires.legible.1 c.requires.legible.2 (open_sound c.requires.fact) c.if-a-b.true); known_2 = λ _. c.requires.known }

pub first_letter-m-requires : goal.first_letter-m-requires
first_letter-m-requires t c = (omega (arith, c.requires.legible.1.within, c.requires.legible.0.fits), omega (arith, c.requires.legible.2.within, c.requires.legible.0.fits))

pub returns-then-m : goal.returns-then-m
returns-then-m t c = record { outcome = means_stored c.requires.fact (differ_everywhere c.requires.legible.0 c.requires.legible.1 c.requires.legible.2 c.first_letter-m.ensures (open_sound c.requires.fact) c.if-a-b.false c.if-m.true); known_2 = λ _. c.requires.known }

pub look-old-requires : goal.look-old-requires
look-old-requires t c = c.requires.known.long

pub returns-then-old-ne0 : goal.returns-then-old-ne0
returns-then-old-ne0 t c = record { outcome = known_found c.requires.fact c.requires.known c.look-old.ensures c.if-old-ne0.true; known_2 = λ _. c.requires.known }

pub parts-pa-requires : goal.parts-pa-requires
parts-pa-requires t c = (omega (arith, c.requires.legible.1.within, c.requires.legible.0.fits), c.requires.legible.0.low_long, c.requires.legible.0.high_long)

pub parts-pb-requires : goal.parts-pb-requires
parts-pb-requires t c = (omega (arith, c.requires.legible.2.within, c.requires.legible.0.fits), c.requires.legible.0.low_long, c.requires.legible.0.high_long)

pub overflow_sub-left : goal.overflow_sub-left
overflow_sub-left t c = differ_room c.requires.legible.0 c.requires.legible.1 c.requires.legible.2 c.first_letter-m.ensures c.if-m.false

pub differ_part-p-requires : goal.differ_part-p-requires
differ_part-p-requires t c = (omega (arith, c.decreases, differ_room c.requires.legible.0 c.requires.legible.1 c.requires.legible.2 c.first_letter-m.ensures c.if-m.false), ((c.requires.legible.0, (differ_first c.requires.legible.0 c.requires.legible.1 c.requires.legible.2 c.first_letter-m.ensures c.if-m.false c.parts-pa.ensures c.parts-pb.ensures).0, (differ_second c.requires.legible.0 c.requires.legible.1 c.requires.legible.2 c.first_letter-m.ensures c.if-m.false c.parts-pa.ensures c.parts-pb.ensures).0), (c.requires.fact, c.requires.known)))

pub shape_of-letter-then-stopped : goal.shape_of-letter-then-stopped
shape_of-letter-then-stopped t c = omega (arith, c.differ_part-p.auto.letter)

pub shape_of-low-then-stopped : goal.shape_of-low-then-stopped
shape_of-low-then-stopped t c = omega (arith, c.differ_part-p.auto.low)

pub shape_of-high-then-stopped : goal.shape_of-high-then-stopped
shape_of-high-then-stopped t c = omega (arith, c.differ_part-p.auto.high)

pub shape_of-index-then-stopped : goal.shape_of-index-then-stopped
shape_of-index-then-stopped t c = omega (arith, c.differ_part-p.auto.index)

pub shape_of-cache-then-stopped : goal.shape_of-cache-then-stopped
shape_of-cache-then-stopped t c = omega (arith, c.differ_part-p.auto.cache)

pub returns-then-stopped : goal.returns-then-stopped
returns-then-stopped t c = record { outcome = low_full c.requires.fact (differ_halves c.requires.legible.0 c.requires.legible.1 c.requires.legible.2 c.first_letter-m.ensures c.if-m.false c.parts-pa.ensures c.parts-pb.ensures _ (open_sound c.requires.fact)) c.differ_part-p.ensures.outcome (sym c.stopped.ensures ∙ c.if-stopped.true); known_2 = λ z. true_false _ (sym c.stopped.ensures ∙ c.if-stopped.true) z }

pub overflow_sub-left-2 : goal.overflow_sub-left-2
overflow_sub-left-2 t c = differ_room c.requires.legible.0 c.requires.legible.1 c.requires.legible.2 c.first_letter-m.ensures c.if-m.false

pub differ_part-q-requires : goal.differ_part-q-requires
differ_part-q-requires t c = (omega (arith, c.decreases, differ_room c.requires.legible.0 c.requires.legible.1 c.requires.legible.2 c.first_letter-m.ensures c.if-m.false), ((c.requires.legible.0, (differ_first c.requires.legible.0 c.requires.legible.1 c.requires.legible.2 c.first_letter-m.ensures c.if-m.false c.parts-pa.ensures c.parts-pb.ensures).1, (differ_second c.requires.legible.0 c.requires.legible.1 c.requires.legible.2 c.first_letter-m.ensures c.if-m.false c.parts-pa.ensures c.parts-pb.ensures).1), ((low_open c.requires.fact (differ_halves c.requires.legible.0 c.requires.legible.1 c.requires.legible.2 c.first_letter-m.ensures c.if-m.false c.parts-pa.ensures c.parts-pb.ensures _ (open_sound c.requires.fact)) c.differ_part-p.ensures.outcome (sym c.stopped.ensures ∙ c.if-stopped.false)), c.differ_part-p.ensures.known_2 (sym c.stopped.ensures ∙ c.if-stopped.false))))

pub shape_of-letter-then-stopped-2 : goal.shape_of-letter-then-stopped-2
shape_of-letter-then-stopped-2 t c = omega (arith, c.differ_part-p.auto.letter, c.differ_part-q.auto.letter)

pub shape_of-low-then-stopped-2 : goal.shape_of-low-then-stopped-2
shape_of-low-then-stopped-2 t c = omega (arith, c.differ_part-p.auto.low, c.differ_part-q.auto.low)

pub shape_of-high-then-stopped-2 : goal.shape_of-high-then-stopped-2
shape_of-high-then-stopped-2 t c = omega (arith, c.differ_part-p.auto.high, c.differ_part-q.auto.high)

pub shape_of-index-then-stopped-2 : goal.shape_of-index-then-stopped-2
shape_of-index-then-stopped-2 t c = omega (arith, c.differ_part-p.auto.index, c.differ_part-q.auto.index)

pub shape_of-cache-then-stopped-2 : goal.shape_of-cache-then-stopped-2
shape_of-cache-then-stopped-2 t c = omega (arith, c.differ_part-p.auto.cache, c.differ_part-q.auto.cache)

pub returns-then-stopped-2 : goal.returns-then-stopped-2
returns-then-stopped-2 t c = record { outcome = high_full c.requires.fact (differ_halves c.requires.legible.0 c.requires.legible.1 c.requires.legible.2 c.first_letter-m.ensures c.if-m.false c.parts-pa.ensures c.parts-pb.ensures _ (open_sound c.requires.fact)) c.differ_part-p.ensures.outcome (sym c.stopped.ensures ∙ c.if-stopped.false) c.differ_part-q.ensures.outcome (sym c.stopped-2.ensures ∙ c.if-stopped-2.true); known_2 = λ z. true_false _ (sym c.stopped-2.ensures ∙ c.if-stopped-2.true) z }

pub join_kept-requires : goal.join_kept-requires
join_kept-requires t c = record { holds = (high_holds c.requires.fact (differ_halves c.requires.legible.0 c.requires.legible.1 c.requires.legible.2 c.first_letter-m.ensures c.if-m.false c.parts-pa.ensures c.parts-pb.ensures _ (open_sound c.requires.fact)) c.differ_part-p.ensures.outcome (sym c.stopped.ensures ∙ c.if-stopped.false) c.differ_part-q.ensures.outcome (sym c.stopped-2.ensures ∙ c.if-stopped-2.false), grown_entry (low_open c.requires.fact (differ_halves c.requires.legible.0 c.requires.legible.1 c.requires.legible.2 c.first_letter-m.ensures c.if-m.false c.parts-pa.ensures c.parts-pb.ensures _ (open_sound c.requires.fact)) c.differ_part-p.ensures.outcome (sym c.stopped.ensures ∙ c.if-stopped.false)) (outcome_grown (low_open c.requires.fact (differ_halves c.requires.legible.0 c.requires.legible.1 c.requires.legible.2 c.first_letter-m.ensures c.if-m.false c.parts-pa.ensures c.parts-pb.ensures _ (open_sound c.requires.fact)) c.differ_part-p.ensures.outcome (sym c.stopped.ensures ∙ c.if-stopped.false)) c.differ_part-q.ensures.outcome) (sym c.stopped-2.ensures ∙ c.if-stopped-2.false)); in_bounds = (c.differ_part-q.ensures.known_2 (sym c.stopped-2.ensures ∙ c.if-stopped-2.false)).long }

pub shape_of-letter : goal.shape_of-letter
shape_of-letter t c = omega (arith, c.differ_part-p.auto.letter, c.differ_part-q.auto.letter, c.join_kept.auto.letter)

pub shape_of-low : goal.shape_of-low
shape_of-low t c = omega (arith, c.differ_part-p.auto.low, c.differ_part-q.auto.low, c.join_kept.auto.low)

pub shape_of-high : goal.shape_of-high
shape_of-high t c = omega (arith, c.differ_part-p.auto.high, c.differ_part-q.auto.high, c.join_kept.auto.high)

pub shape_of-index : goal.shape_of-index
shape_of-index t c = omega (arith, c.differ_part-p.auto.index, c.differ_part-q.auto.index, c.join_kept.auto.index)

pub shape_of-cache : goal.shape_of-cache
shape_of-cache t c = omega (arith, c.differ_part-p.auto.cache, c.differ_part-q.auto.cache, c.join_kept.auto.cache)

pub returns : goal.returns
returns t c =
    let d = root_done c.requires.fact (differ_halves c.requires.legible.0 c.requires.legible.1 c.requires.legible.2 c.first_letter-m.ensures c.if-m.false c.parts-pa.ensures c.parts-pb.ensures _ (open_sound c.requires.fact)) c.differ_part-p.ensures.outcome (sym c.stopped.ensures ∙ c.if-stopped.false) c.differ_part-q.ensures.outcome (sym c.stopped-2.ensures ∙ c.if-stopped-2.false) c.join_kept.ensures.outcome in
    record { outcome = d; known_2 = λ z. known_kept c.requires.fact d z (known_joined ((outcome_grown (low_open c.requires.fact (differ_halves c.requires.legible.0 c.requires.legible.1 c.requires.legible.2 c.first_letter-m.ensures c.if-m.false c.parts-pa.ensures c.parts-pb.ensures _ (open_sound c.requires.fact)) c.differ_part-p.ensures.outcome (sym c.stopped.ensures ∙ c.if-stopped.false)) c.differ_part-q.ensures.outcome).opened (sym c.stopped-2.ensures ∙ c.if-stopped-2.false)) _ _ _ c.join_kept.ensures.outcome z (c.differ_part-q.ensures.known_2 (sym c.stopped-2.ensures ∙ c.if-stopped-2.false))) (c.join_kept.ensures.kept z) (omega (arith, c.join_kept.auto.cache)) }
