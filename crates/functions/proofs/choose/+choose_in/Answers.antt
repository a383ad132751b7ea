use mathlib.Core.Path.{refl, sym, ◌∙◌}
use native.Mathlib.Omega.{arith}
use Rattle.lists.proofs.Cases.{true_false}
use Rattle.functions.proofs.Known.{means_stored}
use Rattle.functions.proofs.Halving.{low_full, low_open, low_operand, high_full, root_done}
use Rattle.functions.proofs.Keeping.{high_open, high_within, root_caches}
use Rattle.functions.proofs.Choosing.{choose_stable, node_small, node_room, parts_s, parts_a, parts_b, choose_halves}
use Rattle.functions.proofs.choose.+choose_in.Goals as goal

pub known-e-requires : goal.known-e-requires
known-e-requires t c = record { legible = (c.requires.fact.legible, c.requires.operand.0.within, c.requires.operand.1.within, c.requires.operand.2.within); caches = c.requires.caches }

pub returns-then-e-ne0 : goal.returns-then-e-ne0
returns-then-e-ne0 t c = record { outcome = means_stored c.requires.fact (c.known-e.ensures.found.means c.if-e-ne0.true); caches_2 = λ _. c.requires.caches }

pub first_of-m-requires : goal.first_of-m-requires
first_of-m-requires t c = (omega (arith, c.requires.operand.0.within, c.requires.fact.legible.fits), omega (arith, c.requires.operand.1.within, c.requires.fact.legible.fits), omega (arith, c.requires.operand.2.within, c.requires.fact.legible.fits))

pub parts-ps-requires : goal.parts-ps-requires
parts-ps-requires t c = (omega (arith, c.requires.operand.0.within, c.requires.fact.legible.fits), c.requires.fact.legible.low_long, c.requires.fact.legible.high_long)

pub parts-pa-requires : goal.parts-pa-requires
parts-pa-requires t c = (omega (arith, c.requires.operand.1.within, c.requires.fact.legible.fits), c.requires.fact.legible.low_long, c.requires.fact.legible.high_long)

pub parts-pb-requires : goal.parts-pb-requires
parts-pb-requires t c = (omega (arith, c.requires.operand.2.within, c.requires.fact.legible.fits), c.requires.fact.legible.low_long, c.requires.fact.legible.high_long)

pub overflow_sub-left : goal.overflow_sub-left
overflow_sub-left t c = omega (arith, node_small c.requires.fact c.requires.operand.0 c.requires.operand.1 c.requires.operand.2 (c.known-e.ensures.fact c.if-e-ne0.false) c.first_of-m.ensures, node_room c.requires.fact c.requires.operand.0 c.requires.operand.1 c.requires.operand.2 (c.known-e.ensures.fact c.if-e-ne0.false) c.first_of-m.ensures)

pub choose_in-p-requires : goal.choose_in-p-requires
choose_in-p-requires t c = (omega (arith, c.decreases, node_small c.requires.fact c.requires.operand.0 c.requires.operand.1 c.requires.operand.2 (c.known-e.ensures.fact c.if-e-ne0.false) c.first_of-m.ensures, node_room c.requires.fact c.requires.operand.0 c.requires.operand.1 c.requires.operand.2 (c.known-e.ensures.fact c.if-e-ne0.false) c.first_of-m.ensures), (c.requires.fact, (((parts_s c.requires.fact c.requires.operand.0 c.requires.operand.1 c.requires.operand.2 (c.known-e.ensures.fact c.if-e-ne0.false) c.first_of-m.ensures c.parts-ps.ensures c.parts-pa.ensures c.parts-pb.ensures).0, (parts_a c.requires.fact c.requires.operand.0 c.requires.operand.1 c.requires.operand.2 (c.known-e.ensures.fact c.if-e-ne0.false) c.first_of-m.ensures c.parts-ps.ensures c.parts-pa.ensures c.parts-pb.ensures).0, (parts_b c.requires.fact c.requires.operand.0 c.requires.operand.1 c.requires.operand.2 (c.known-e.ensures.fact c.if-e-ne0.false) c.first_of-m.ensures c.parts-ps.ensures c.parts-pa.ensures c.parts-pb.ensures).0), c.requires.caches)))

pub shape_of-letter-then-stopped : goal.shape_of-letter-then-stopped
shape_of-letter-then-stopped t c = omega (arith, c.choose_in-p.auto.letter)

pub shape_of-low-then-stopped : goal.shape_of-low-then-stopped
shape_of-low-then-stopped t c = omega (arith, c.choose_in-p.auto.low)

pub shape_of-high-then-stopped : goal.shape_of-high-then-stopped
shape_of-high-then-stopped t c = omega (arith, c.choose_in-p.auto.high)

pub shape_of-index-then-stopped : goal.shape_of-index-then-stopped
shape_of-index-then-stopped t c = omega (arith, c.choose_in-p.auto.index)

pub shape_of-cache-then-stopped : goal.shape_of-cache-then-stopped
shape_of-cache-then-stopped t c = omega (arith, c.choose_in-p.auto.cache)

pub returns-then-stopped : goal.returns-then-stopped
returns-then-stopped t c =
    let g = choose_halves c.requires.fact c.requires.operand.0 c.requires.operand.1 c.requires.operand.2 (c.known-e.ensures.fact c.if-e-ne0.false) c.first_of-m.ensures c.parts-ps.ensures c.parts-pa.ensures c.parts-pb.ensures in let full = sym c.stopped.ensures ∙ c.if-stopped.true in
    record { outcome = low_full c.requires.fact g c.choose_in-p.ensures.outcome full; caches_2 = λ z. true_false _ full z }

pub overflow_sub-left-2 : goal.overflow_sub-left-2
overflow_sub-left-2 t c = omega (arith, node_small c.requires.fact c.requires.operand.0 c.requires.operand.1 c.requires.operand.2 (c.known-e.ensures.fact c.if-e-ne0.false) c.first_of-m.ensures, node_room c.requires.fact c.requires.operand.0 c.requires.operand.1 c.requires.operand.2 (c.known-e.ensures.fact c.if-e-ne0.false) c.first_of-m.ensures)

pub choose_in-q-requires : goal.choose_in-q-requires
choose_in-q-requires t c =
    let g = choose_halves c.requires.fact c.requires.operand.0 c.requires.operand.1 c.requires.operand.2 (c.known-e.ensures.fact c.if-e-ne0.false) c.first_of-m.ensures c.parts-ps.ensures c.parts-pa.ensures c.parts-pb.ensures in (omega (arith, c.decreases, node_small c.requires.fact c.requires.operand.0 c.requires.operand.1 c.requires.operand.2 (c.known-e.ensures.fact c.if-e-ne0.false) c.first_of-m.ensures, node_room c.requires.fact c.requires.operand.0 c.requires.operand.1 c.requires.operand.2 (c.known-e.ensures.fact c.if-e-ne0.false) c.first_of-m.ensures), (low_open c.requires.fact g c.choose_in-p.ensures.outcome (sym c.stopped.ensures ∙ c.if-stopped.false), ((low_operand c.requires.fact g c.choose_in-p.ensures.outcome (sym c.stopped.ensures ∙ c.if-stopped.false) (parts_s c.requires.fact c.requires.operand.0 c.requires.operand.1 c.requires.operand.2 (c.known-e.ensures.fact c.if-e-ne0.false) c.first_of-m.ensures c.parts-ps.ensures c.parts-pa.ensures c.parts-pb.ensures).1, low_operand c.requires.fact g c.choose_in-p.ensures.outcome (sym c.stopped.ensures ∙ c.if-stopped.false) (parts_a c.requires.fact c.requires.operand.0 c.requires.operand.1 c.requires.operand.2 (c.known-e.ensures.fact c.if-e-ne0.false) c.first_of-m.ensures c.parts-ps.ensures c.parts-pa.ensures c.parts-pb.ensures).1, low_operand c.requires.fact g c.choose_in-p.ensures.outcome (sym c.stopped.ensures ∙ c.if-stopped.false) (parts_b c.requires.fact c.requires.operand.0 c.requires.operand.1 c.requires.operand.2 (c.known-e.ensures.fact c.if-e-ne0.false) c.first_of-m.ensures c.parts-ps.ensures c.parts-pa.ensures c.parts-pb.ensures).1), c.choose_in-p.ensures.caches_2 (sym c.stopped.ensures ∙ c.if-stopped.false))))

pub shape_of-letter-then-stopped-2 : goal.shape_of-letter-then-stopped-2
shape_of-letter-then-stopped-2 t c = omega (arith, c.choose_in-p.auto.letter, c.choose_in-q.auto.letter)

pub shape_of-low-then-stopped-2 : goal.shape_of-low-then-stopped-2
shape_of-low-then-stopped-2 t c = omega (arith, c.choose_in-p.auto.low, c.choose_in-q.auto.low)

pub shape_of-high-then-stopped-2 : goal.shape_of-high-then-stopped-2
shape_of-high-then-stopped-2 t c = omega (arith, c.choose_in-p.auto.high, c.choose_in-q.auto.high)

pub shape_of-index-then-stopped-2 : goal.shape_of-index-then-stopped-2
shape_of-index-then-stopped-2 t c = omega (arith, c.choose_in-p.auto.index, c.choose_in-q.auto.index)

pub shape_of-cache-then-stopped-2 : goal.shape_of-cache-then-stopped-2
shape_of-cache-then-stopped-2 t c = omega (arith, c.choose_in-p.auto.cache, c.choose_in-q.auto.cache)

pub returns-then-stopped-2 : goal.returns-then-stopped-2
returns-then-stopped-2 t c =
    let g = choose_halves c.requires.fact c.requires.operand.0 c.requires.operand.1 c.requires.operand.2 (c.known-e.ensures.fact c.if-e-ne0.false) c.first_of-m.ensures c.parts-ps.ensures c.parts-pa.ensures c.parts-pb.ensures in let full = sym c.stopped-2.ensures ∙ c.if-stopped-2.true in
    record { outcome = high_full c.requires.fact g c.choose_in-p.ensures.outcome (sym c.stopped.ensures ∙ c.if-stopped.false) c.choose_in-q.ensures.outcome full; caches_2 = λ z. true_false _ full z }

pub join_kept-requires : goal.join_kept-requires
join_kept-requires t c =
    let g = choose_halves c.requires.fact c.requires.operand.0 c.requires.operand.1 c.requires.operand.2 (c.known-e.ensures.fact c.if-e-ne0.false) c.first_of-m.ensures c.parts-ps.ensures c.parts-pa.ensures c.parts-pb.ensures in
    record { holds = ((high_open c.requires.fact g c.choose_in-p.ensures.outcome (sym c.stopped.ensures ∙ c.if-stopped.false) c.choose_in-q.ensures.outcome (sym c.stopped-2.ensures ∙ c.if-stopped-2.false)).holds, high_within c.requires.fact g c.choose_in-p.ensures.outcome (sym c.stopped.ensures ∙ c.if-stopped.false) c.choose_in-q.ensures.outcome (sym c.stopped-2.ensures ∙ c.if-stopped-2.false)); in_bounds = (c.choose_in-q.ensures.caches_2 (sym c.stopped-2.ensures ∙ c.if-stopped-2.false)).long }

pub shape_of-letter : goal.shape_of-letter
shape_of-letter t c = omega (arith, c.choose_in-p.auto.letter, c.choose_in-q.auto.letter, c.join_kept.auto.letter)

pub shape_of-low : goal.shape_of-low
shape_of-low t c = omega (arith, c.choose_in-p.auto.low, c.choose_in-q.auto.low, c.join_kept.auto.low)

pub shape_of-high : goal.shape_of-high
shape_of-high t c = omega (arith, c.choose_in-p.auto.high, c.choose_in-q.auto.high, c.join_kept.auto.high)

pub shape_of-index : goal.shape_of-index
shape_of-index t c = omega (arith, c.choose_in-p.auto.index, c.choose_in-q.auto.index, c.join_kept.auto.index)

pub shape_of-cache : goal.shape_of-cache
shape_of-cache t c = omega (arith, c.choose_in-p.auto.cache, c.choose_in-q.auto.cache, c.join_kept.auto.cache)

pub returns : goal.returns
returns t c =
    let g = choose_halves c.requires.fact c.requires.operand.0 c.requires.operand.1 c.requires.operand.2 (c.known-e.ensures.fact c.if-e-ne0.false) c.first_of-m.ensures c.parts-ps.ensures c.parts-pa.ensures c.parts-pb.ensures in
    record { outcome = root_done c.requires.fact g c.choose_in-p.ensures.outcome (sym c.stopped.ensures ∙ c.if-stopped.false) c.choose_in-q.ensures.outcome (sym c.stopped-2.ensures ∙ c.if-stopped-2.false) c.join_kept.ensures.outcome; caches_2 = root_caches c.requires.fact g c.choose_in-p.ensures.outcome (sym c.stopped.ensures ∙ c.if-stopped.false) c.choose_in-q.ensures.outcome (sym c.stopped-2.ensures ∙ c.if-stopped-2.false) c.args.s c.args.a c.args.b (choose_stable c.args.k) c.requires.operand.0.within c.requires.operand.1.within c.requires.operand.2.within refl c.join_kept.ensures.outcome (c.choose_in-q.ensures.caches_2 (sym c.stopped-2.ensures ∙ c.if-stopped-2.false)) c.join_kept.ensures.kept }
