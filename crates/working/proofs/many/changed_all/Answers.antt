use Rattle.lists.proofs.Cases.{true_false}
use native.Mathlib.Omega.{arith}
use mathlib.Core.Path.{refl, sym, ◌∙◌}
use Prim.Native.Nat.{ℕ}
use lib.ListN.{length-replicate, get_or-replicate}
use Rattle.working.proofs.Crowd.{crowded_from}
use Rattle.working.proofs.Grow.{outcome_grown}
use Rattle.working.proofs.Fill.{means_zero, filling_first, filling_next}
use Rattle.working.proofs.Recall.{known_none}
use Rattle.working.proofs.many.changed_all.Goals as goal

pub loop-n-init : goal.loop-n-init
loop-n-init c = (filling_first _ _ c.requires.fact (length-replicate {A = ℕ} 26 0) (λ m hm. rw (get_or-replicate {A = ℕ} 26 m 0 0 hm) (means_zero c.requires.fact)), known_none 512 (omega arith), length-replicate {A = ℕ} 512 0)

pub returns-then-stopped : goal.returns-then-stopped
returns-then-stopped c = ((λ z. true_false _ (sym c.stopped.ensures ∙ c.if-stopped.true) z), (λ z. crowded_from c.loop-n.invariant.0.filled.extends ((outcome_grown c.loop-n.invariant.0.filled.opened c.differ_part-p.ensures.outcome).crowded (sym c.stopped.ensures ∙ c.if-stopped.true))))

pub loop-n-preserved : goal.loop-n-preserved
loop-n-preserved c = (filling_next c.loop-n.invariant.0 (outcome_grown c.loop-n.invariant.0.filled.opened c.differ_part-p.ensures.outcome) (sym c.stopped.ensures ∙ c.if-stopped.false) (λ p hp. refl) (omega (arith, c.loop-n-test.true, c.requires.legible.3)) c.differ_part-p.auto.letter c.differ_part-p.auto.low c.differ_part-p.auto.high c.differ_part-p.auto.index, c.differ_part-p.ensures.known_2 (sym c.stopped.ensures ∙ c.if-stopped.false), omega (arith, c.loop-n.invariant.2, c.differ_part-p.auto.cache))
