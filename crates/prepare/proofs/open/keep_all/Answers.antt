-- `keep_all` meets its contract: by the matrix as far as one closes a loop, and then without it.
use native.Mathlib.Omega.{arith}
use mathlib.Core.Path.{sym, ◌∙◌}
use Rattle.lists.proofs.Cases.{true_false}
use Rattle.working.proofs.Crowd.{crowded_from}
use Rattle.working.proofs.Fill.{used_kept}
use Rattle.prepare.proofs.Opening.{bits_kept, kept_both}
use Rattle.prepare.proofs.open.keep_all.Goals as goal

pub bounds-net-2314 : goal.bounds-net-2314
bounds-net-2314 c = omega (arith, c.requires.laid.long)

pub bounds-net-1 : goal.bounds-net-1
bounds-net-1 c = omega (arith, c.requires.laid.long)

pub keep_looped-a-requires : goal.keep_looped-a-requires
keep_looped-a-requires c = record { laid = (c.requires.laid, omega (arith, c.least-limit.ensures)); fact = c.requires.fact }

pub shape_of-letter-then-stopped : goal.shape_of-letter-then-stopped
shape_of-letter-then-stopped c = omega (arith, c.keep_looped-a.auto.letter)

pub shape_of-low-then-stopped : goal.shape_of-low-then-stopped
shape_of-low-then-stopped c = omega (arith, c.keep_looped-a.auto.low)

pub shape_of-high-then-stopped : goal.shape_of-high-then-stopped
shape_of-high-then-stopped c = omega (arith, c.keep_looped-a.auto.high)

pub shape_of-index-then-stopped : goal.shape_of-index-then-stopped
shape_of-index-then-stopped c = omega (arith, c.keep_looped-a.auto.index)

pub returns-then-stopped : goal.returns-then-stopped
returns-then-stopped c = ((λ z. true_false _ (sym c.stopped.ensures ∙ c.if-stopped.true) z), c.keep_looped-a.ensures.1)

pub keep_rest-requires : goal.keep_rest-requires
keep_rest-requires c = record { laid = c.requires.laid; fact = ((c.keep_looped-a.ensures.0 (sym c.stopped.ensures ∙ c.if-stopped.false)).opened, (λ m hm. used_kept c.requires.fact.0 (c.keep_looped-a.ensures.0 (sym c.stopped.ensures ∙ c.if-stopped.false)).opened (c.keep_looped-a.ensures.0 (sym c.stopped.ensures ∙ c.if-stopped.false)).extends (c.requires.fact.1 m hm)), (λ m hm. used_kept c.requires.fact.0 (c.keep_looped-a.ensures.0 (sym c.stopped.ensures ∙ c.if-stopped.false)).opened (c.keep_looped-a.ensures.0 (sym c.stopped.ensures ∙ c.if-stopped.false)).extends (c.requires.fact.2 m hm)), (c.keep_looped-a.ensures.0 (sym c.stopped.ensures ∙ c.if-stopped.false)).kept_used, bits_kept c.args.values c.requires.fact.0 c.requires.fact.1 c.requires.laid.within.nodes (c.keep_looped-a.ensures.0 (sym c.stopped.ensures ∙ c.if-stopped.false)).opened (c.keep_looped-a.ensures.0 (sym c.stopped.ensures ∙ c.if-stopped.false)).extends c.requires.fact.3) }

pub shape_of-letter : goal.shape_of-letter
shape_of-letter c = omega (arith, c.keep_looped-a.auto.letter, c.keep_rest.auto.letter)

pub shape_of-low : goal.shape_of-low
shape_of-low c = omega (arith, c.keep_looped-a.auto.low, c.keep_rest.auto.low)

pub shape_of-high : goal.shape_of-high
shape_of-high c = omega (arith, c.keep_looped-a.auto.high, c.keep_rest.auto.high)

pub shape_of-index : goal.shape_of-index
shape_of-index c = omega (arith, c.keep_looped-a.auto.index, c.keep_rest.auto.index)

pub returns : goal.returns
returns c = rw (← c.least-limit.ensures) ((λ z. kept_both c.requires.fact.0 c.requires.fact.1 c.requires.laid.within.nodes (omega (arith, c.least-limit.ensures, c.requires.laid.within.transistors)) (c.keep_looped-a.ensures.0 (sym c.stopped.ensures ∙ c.if-stopped.false)) (c.keep_rest.ensures.0 z)), (λ z. crowded_from (c.keep_looped-a.ensures.0 (sym c.stopped.ensures ∙ c.if-stopped.false)).extends (c.keep_rest.ensures.1 z)))
