use mathlib.Core.Path.{refl, sym, ◌∙◌}
use native.Mathlib.Omega.{arith}
use Rattle.lists.proofs.Cases.{true_false}
use Rattle.functions.proofs.Carry.{legible_some}
use Rattle.functions.proofs.Known.{caches_found, means_stored}
use Rattle.functions.proofs.Halving.{low_full, low_open, low_operand, high_full, root_done}
use Rattle.functions.proofs.Keeping.{high_open, high_within, root_caches}
use Rattle.operations.proofs.Extending.{fix_stable}
use Rattle.operations.proofs.Fixing.{later_done, own_done, parts_e, fix_room, fix_halves}
use Rattle.operations.proofs.fix.+fix_in.Goals as goal

pub bounds-letter-i : goal.bounds-letter-i
bounds-letter-i t c = omega (arith, c.requires.operand.0.within, c.requires.fact.legible.fits)

pub returns-then-j-m : goal.returns-then-j-m
returns-then-j-m t c = record { outcome = later_done c.requires.fact c.requires.operand.0 c.requires.operand.1 c.requires.operand.2 c.if-j-m.true; caches_2 = λ _. c.requires.caches }

pub parts-h-requires : goal.parts-h-requires
parts-h-requires t c = (omega (arith, c.requires.operand.0.within, c.requires.fact.legible.fits), c.requires.fact.legible.low_long, c.requires.fact.legible.high_long)

pub returns-then-m-j : goal.returns-then-m-j
returns-then-m-j t c = record { outcome = own_done c.requires.fact c.requires.operand.0 c.requires.operand.1 c.requires.operand.2 c.parts-h.ensures _ c.if-m-j.true c.side-part.ensures; caches_2 = λ _. c.requires.caches }

pub look-old-requires : goal.look-old-requires
look-old-requires t c = c.requires.caches.long

pub returns-then-old-ne0 : goal.returns-then-old-ne0
returns-then-old-ne0 t c = record { outcome = means_stored c.requires.fact ((caches_found c.requires.caches c.look-old.ensures).means c.if-old-ne0.true); caches_2 = λ _. c.requires.caches }

pub overflow_sub-left : goal.overflow_sub-left
overflow_sub-left t c = fix_room c.requires.fact c.requires.operand.0 c.requires.operand.1 c.requires.operand.2 c.parts-h.ensures (omega (arith, c.if-j-m.false, c.if-m-j.false))

pub fix_in-p-requires : goal.fix_in-p-requires
fix_in-p-requires t c = (omega (arith, c.decreases, fix_room c.requires.fact c.requires.operand.0 c.requires.operand.1 c.requires.operand.2 c.parts-h.ensures (omega (arith, c.if-j-m.false, c.if-m-j.false))), (c.requires.fact, (((parts_e c.requires.fact c.requires.operand.0 c.requires.operand.1 c.requires.operand.2 c.parts-h.ensures (omega (arith, c.if-j-m.false, c.if-m-j.false))).0, c.requires.operand.1, c.requires.operand.2), c.requires.caches)))

pub shape_of-letter-then-stopped : goal.shape_of-letter-then-stopped
shape_of-letter-then-stopped t c = omega (arith, c.fix_in-p.auto.letter)

pub shape_of-low-then-stopped : goal.shape_of-low-then-stopped
shape_of-low-then-stopped t c = omega (arith, c.fix_in-p.auto.low)

pub shape_of-high-then-stopped : goal.shape_of-high-then-stopped
shape_of-high-then-stopped t c = omega (arith, c.fix_in-p.auto.high)

pub shape_of-index-then-stopped : goal.shape_of-index-then-stopped
shape_of-index-then-stopped t c = omega (arith, c.fix_in-p.auto.index)

pub shape_of-cache-then-stopped : goal.shape_of-cache-then-stopped
shape_of-cache-then-stopped t c = omega (arith, c.fix_in-p.auto.cache)

pub returns-then-stopped : goal.returns-then-stopped
returns-then-stopped t c =
    let g = fix_halves c.requires.fact c.requires.operand.0 c.requires.operand.1 c.requires.operand.2 c.parts-h.ensures (omega (arith, c.if-j-m.false, c.if-m-j.false)) in let full = sym c.stopped.ensures ∙ c.if-stopped.true in
    record { outcome = low_full c.requires.fact g c.fix_in-p.ensures.outcome full; caches_2 = λ z. true_false _ full z }

pub overflow_sub-left-2 : goal.overflow_sub-left-2
overflow_sub-left-2 t c = fix_room c.requires.fact c.requires.operand.0 c.requires.operand.1 c.requires.operand.2 c.parts-h.ensures (omega (arith, c.if-j-m.false, c.if-m-j.false))

pub fix_in-q-requires : goal.fix_in-q-requires
fix_in-q-requires t c =
    let g = fix_halves c.requires.fact c.requires.operand.0 c.requires.operand.1 c.requires.operand.2 c.parts-h.ensures (omega (arith, c.if-j-m.false, c.if-m-j.false)) in (omega (arith, c.decreases, fix_room c.requires.fact c.requires.operand.0 c.requires.operand.1 c.requires.operand.2 c.parts-h.ensures (omega (arith, c.if-j-m.false, c.if-m-j.false))), (low_open c.requires.fact g c.fix_in-p.ensures.outcome (sym c.stopped.ensures ∙ c.if-stopped.false), ((low_operand c.requires.fact g c.fix_in-p.ensures.outcome (sym c.stopped.ensures ∙ c.if-stopped.false) (parts_e c.requires.fact c.requires.operand.0 c.requires.operand.1 c.requires.operand.2 c.parts-h.ensures (omega (arith, c.if-j-m.false, c.if-m-j.false))).1, c.requires.operand.1, c.requires.operand.2), c.fix_in-p.ensures.caches_2 (sym c.stopped.ensures ∙ c.if-stopped.false))))

pub shape_of-letter-then-stopped-2 : goal.shape_of-letter-then-stopped-2
shape_of-letter-then-stopped-2 t c = omega (arith, c.fix_in-p.auto.letter, c.fix_in-q.auto.letter)

pub shape_of-low-then-stopped-2 : goal.shape_of-low-then-stopped-2
shape_of-low-then-stopped-2 t c = omega (arith, c.fix_in-p.auto.low, c.fix_in-q.auto.low)

pub shape_of-high-then-stopped-2 : goal.shape_of-high-then-stopped-2
shape_of-high-then-stopped-2 t c = omega (arith, c.fix_in-p.auto.high, c.fix_in-q.auto.high)

pub shape_of-index-then-stopped-2 : goal.shape_of-index-then-stopped-2
shape_of-index-then-stopped-2 t c = omega (arith, c.fix_in-p.auto.index, c.fix_in-q.auto.index)

pub shape_of-cache-then-stopped-2 : goal.shape_of-cache-then-stopped-2
shape_of-cache-then-stopped-2 t c = omega (arith, c.fix_in-p.auto.cache, c.fix_in-q.auto.cache)

pub returns-then-stopped-2 : goal.returns-then-stopped-2
returns-then-stopped-2 t c =
    let g = fix_halves c.requires.fact c.requires.operand.0 c.requires.operand.1 c.requires.operand.2 c.parts-h.ensures (omega (arith, c.if-j-m.false, c.if-m-j.false)) in let full = sym c.stopped-2.ensures ∙ c.if-stopped-2.true in
    record { outcome = high_full c.requires.fact g c.fix_in-p.ensures.outcome (sym c.stopped.ensures ∙ c.if-stopped.false) c.fix_in-q.ensures.outcome full; caches_2 = λ z. true_false _ full z }

pub join_kept-requires : goal.join_kept-requires
join_kept-requires t c =
    let g = fix_halves c.requires.fact c.requires.operand.0 c.requires.operand.1 c.requires.operand.2 c.parts-h.ensures (omega (arith, c.if-j-m.false, c.if-m-j.false)) in
    record { holds = ((high_open c.requires.fact g c.fix_in-p.ensures.outcome (sym c.stopped.ensures ∙ c.if-stopped.false) c.fix_in-q.ensures.outcome (sym c.stopped-2.ensures ∙ c.if-stopped-2.false)).holds, high_within c.requires.fact g c.fix_in-p.ensures.outcome (sym c.stopped.ensures ∙ c.if-stopped.false) c.fix_in-q.ensures.outcome (sym c.stopped-2.ensures ∙ c.if-stopped-2.false)); in_bounds = (c.fix_in-q.ensures.caches_2 (sym c.stopped-2.ensures ∙ c.if-stopped-2.false)).long }

pub shape_of-letter : goal.shape_of-letter
shape_of-letter t c = omega (arith, c.fix_in-p.auto.letter, c.fix_in-q.auto.letter, c.join_kept.auto.letter)

pub shape_of-low : goal.shape_of-low
shape_of-low t c = omega (arith, c.fix_in-p.auto.low, c.fix_in-q.auto.low, c.join_kept.auto.low)

pub shape_of-high : goal.shape_of-high
shape_of-high t c = omega (arith, c.fix_in-p.auto.high, c.fix_in-q.auto.high, c.join_kept.auto.high)

pub shape_of-index : goal.shape_of-index
shape_of-index t c = omega (arith, c.fix_in-p.auto.index, c.fix_in-q.auto.index, c.join_kept.auto.index)

pub shape_of-cache : goal.shape_of-cache
shape_of-cache t c = omega (arith, c.fix_in-p.auto.cache, c.fix_in-q.auto.cache, c.join_kept.auto.cache)

pub returns : goal.returns
returns t c =
    let g = fix_halves c.requires.fact c.requires.operand.0 c.requires.operand.1 c.requires.operand.2 c.parts-h.ensures (omega (arith, c.if-j-m.false, c.if-m-j.false)) in
    record { outcome = root_done c.requires.fact g c.fix_in-p.ensures.outcome (sym c.stopped.ensures ∙ c.if-stopped.false) c.fix_in-q.ensures.outcome (sym c.stopped-2.ensures ∙ c.if-stopped-2.false) c.join_kept.ensures.outcome; caches_2 = root_caches c.requires.fact g c.fix_in-p.ensures.outcome (sym c.stopped.ensures ∙ c.if-stopped.false) c.fix_in-q.ensures.outcome (sym c.stopped-2.ensures ∙ c.if-stopped-2.false) c.args.e 0 0 (fix_stable c.args.k c.args.j c.args.bit) c.requires.operand.0.within (legible_some c.requires.fact.legible) (legible_some c.requires.fact.legible) refl c.join_kept.ensures.outcome (c.fix_in-q.ensures.caches_2 (sym c.stopped-2.ensures ∙ c.if-stopped-2.false)) c.join_kept.ensures.kept }
