use mathlib.Core.Path.{refl, sym, ◌∙◌}
use native.Mathlib.Omega.{arith}
use Rattle.lists.proofs.Cases.{true_false}
use Rattle.diagram.specs.declared.Operation.TheVariants.{Flip}
use Rattle.functions.proofs.Applying.{terminals_done}
use Rattle.functions.proofs.Halving.{low_full, high_full, high_holds, root_done}
use Rattle.functions.proofs.Known.{caches_found, means_stored, stored_caches}
use Rattle.functions.proofs.Keeping.{high_within, root_caches}
use Rattle.values.proofs.Flipping.{flips_later, flip_stable, flip_left, flip_halves, low_operands, low_leasts, high_open, high_operands, high_leasts}
use Rattle.values.proofs.flip.+flip_in.Goals as goal

pub returns-then-time-least : goal.returns-then-time-least
returns-then-time-least t c = record { outcome = flips_later c.requires.fact c.args.time c.args.a c.args.b c.requires.operand.0.within c.requires.leasts c.if-time-least.true; caches_2 = λ _. c.requires.caches }

pub first_letter-m-requires : goal.first_letter-m-requires
first_letter-m-requires t c = (omega (arith, c.requires.operand.0.within, c.requires.fact.legible.fits), omega (arith, c.requires.operand.1.within, c.requires.fact.legible.fits))

pub leaf-requires : goal.leaf-requires
leaf-requires t c = record { a_in_bounds = (omega (arith, c.requires.operand.0.within, c.requires.fact.legible.fits, c.requires.fact.legible.low_long), omega (arith, c.requires.operand.1.within, c.requires.fact.legible.fits, c.requires.fact.legible.low_long)); holds = c.requires.fact.holds }

pub returns-then-m : goal.returns-then-m
returns-then-m t c =
    let d = terminals_done c.requires.fact (Flip c.args.time) c.requires.operand.0 c.requires.operand.1 c.first_letter-m.ensures c.if-m.true c.leaf.ensures in
    record { outcome = d; caches_2 = λ room. stored_caches c.requires.fact _ d room (flip_stable c.args.time) c.requires.caches }

pub look-old-requires : goal.look-old-requires
look-old-requires t c = c.requires.caches.long

pub returns-then-old-ne0 : goal.returns-then-old-ne0
returns-then-old-ne0 t c = record { outcome = means_stored c.requires.fact ((caches_found c.requires.caches c.look-old.ensures).means c.if-old-ne0.true); caches_2 = λ _. c.requires.caches }

pub parts-pa-requires : goal.parts-pa-requires
parts-pa-requires t c = (omega (arith, c.requires.operand.0.within, c.requires.fact.legible.fits), c.requires.fact.legible.low_long, c.requires.fact.legible.high_long)

pub parts-pb-requires : goal.parts-pb-requires
parts-pb-requires t c = (omega (arith, c.requires.operand.1.within, c.requires.fact.legible.fits), c.requires.fact.legible.low_long, c.requires.fact.legible.high_long)

pub overflow_sub-less : goal.overflow_sub-less
overflow_sub-less t c = omega (arith, flip_left c.requires.fact c.args.time c.requires.operand.0 c.requires.operand.1 c.requires.leasts c.first_letter-m.ensures c.if-m.false)

pub flip_in-p-requires : goal.flip_in-p-requires
flip_in-p-requires t c = (omega (arith, c.decreases, flip_left c.requires.fact c.args.time c.requires.operand.0 c.requires.operand.1 c.requires.leasts c.first_letter-m.ensures c.if-m.false), (c.requires.fact, (low_operands c.requires.fact c.args.time c.requires.operand.0 c.requires.operand.1 c.requires.leasts c.first_letter-m.ensures c.if-m.false c.parts-pa.ensures c.parts-pb.ensures, (low_leasts c.requires.fact c.args.time c.requires.operand.0 c.requires.operand.1 c.requires.leasts c.first_letter-m.ensures c.if-m.false c.parts-pa.ensures c.parts-pb.ensures, c.requires.caches))))

pub returns-then-stopped : goal.returns-then-stopped
returns-then-stopped t c = record { outcome = low_full c.requires.fact (flip_halves c.requires.fact c.args.time c.requires.operand.0 c.requires.operand.1 c.requires.leasts c.first_letter-m.ensures c.if-m.false c.parts-pa.ensures c.parts-pb.ensures) c.flip_in-p.ensures.outcome (sym c.stopped.ensures ∙ c.if-stopped.true); caches_2 = λ e. true_false _ (sym c.stopped.ensures ∙ c.if-stopped.true) e }

pub flip_in-q-requires : goal.flip_in-q-requires
flip_in-q-requires t c = (omega (arith, c.decreases, flip_left c.requires.fact c.args.time c.requires.operand.0 c.requires.operand.1 c.requires.leasts c.first_letter-m.ensures c.if-m.false), (high_open c.requires.fact c.args.time c.requires.operand.0 c.requires.operand.1 c.requires.leasts c.first_letter-m.ensures c.if-m.false c.parts-pa.ensures c.parts-pb.ensures c.flip_in-p.ensures.outcome (sym c.stopped.ensures ∙ c.if-stopped.false), (high_operands c.requires.fact c.args.time c.requires.operand.0 c.requires.operand.1 c.requires.leasts c.first_letter-m.ensures c.if-m.false c.parts-pa.ensures c.parts-pb.ensures c.flip_in-p.ensures.outcome (sym c.stopped.ensures ∙ c.if-stopped.false), (high_leasts c.requires.fact c.args.time c.requires.operand.0 c.requires.operand.1 c.requires.leasts c.first_letter-m.ensures c.if-m.false c.parts-pa.ensures c.parts-pb.ensures c.flip_in-p.ensures.outcome (sym c.stopped.ensures ∙ c.if-stopped.false), c.flip_in-p.ensures.caches_2 (sym c.stopped.ensures ∙ c.if-stopped.false)))))

pub returns-then-stopped-2 : goal.returns-then-stopped-2
returns-then-stopped-2 t c = record { outcome = high_full c.requires.fact (flip_halves c.requires.fact c.args.time c.requires.operand.0 c.requires.operand.1 c.requires.leasts c.first_letter-m.ensures c.if-m.false c.parts-pa.ensures c.parts-pb.ensures) c.flip_in-p.ensures.outcome (sym c.stopped.ensures ∙ c.if-stopped.false) c.flip_in-q.ensures.outcome (sym c.stopped-2.ensures ∙ c.if-stopped-2.true); caches_2 = λ e. true_false _ (sym c.stopped-2.ensures ∙ c.if-stopped-2.true) e }

pub join_kept-requires : goal.join_kept-requires
join_kept-requires t c = record { holds = (high_holds c.requires.fact (flip_halves c.requires.fact c.args.time c.requires.operand.0 c.requires.operand.1 c.requires.leasts c.first_letter-m.ensures c.if-m.false c.parts-pa.ensures c.parts-pb.ensures) c.flip_in-p.ensures.outcome (sym c.stopped.ensures ∙ c.if-stopped.false) c.flip_in-q.ensures.outcome (sym c.stopped-2.ensures ∙ c.if-stopped-2.false), high_within c.requires.fact (flip_halves c.requires.fact c.args.time c.requires.operand.0 c.requires.operand.1 c.requires.leasts c.first_letter-m.ensures c.if-m.false c.parts-pa.ensures c.parts-pb.ensures) c.flip_in-p.ensures.outcome (sym c.stopped.ensures ∙ c.if-stopped.false) c.flip_in-q.ensures.outcome (sym c.stopped-2.ensures ∙ c.if-stopped-2.false)); in_bounds = (c.flip_in-q.ensures.caches_2 (sym c.stopped-2.ensures ∙ c.if-stopped-2.false)).long }

pub returns : goal.returns
returns t c = record { outcome = root_done c.requires.fact (flip_halves c.requires.fact c.args.time c.requires.operand.0 c.requires.operand.1 c.requires.leasts c.first_letter-m.ensures c.if-m.false c.parts-pa.ensures c.parts-pb.ensures) c.flip_in-p.ensures.outcome (sym c.stopped.ensures ∙ c.if-stopped.false) c.flip_in-q.ensures.outcome (sym c.stopped-2.ensures ∙ c.if-stopped-2.false) c.join_kept.ensures.outcome; caches_2 = root_caches c.requires.fact (flip_halves c.requires.fact c.args.time c.requires.operand.0 c.requires.operand.1 c.requires.leasts c.first_letter-m.ensures c.if-m.false c.parts-pa.ensures c.parts-pb.ensures) c.flip_in-p.ensures.outcome (sym c.stopped.ensures ∙ c.if-stopped.false) c.flip_in-q.ensures.outcome (sym c.stopped-2.ensures ∙ c.if-stopped-2.false) c.args.a c.args.b 0 (flip_stable c.args.time) c.requires.operand.0.within c.requires.operand.1.within (omega (arith, c.requires.operand.0.within)) refl c.join_kept.ensures.outcome (c.flip_in-q.ensures.caches_2 (sym c.stopped-2.ensures ∙ c.if-stopped-2.false)) c.join_kept.ensures.kept }
