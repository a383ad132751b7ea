use native.Mathlib.Omega.{arith}
use mathlib.Core.Path.{sym, ◌∙◌}
use Prim.Native.Nat.{ℕ, ◌<◌, ◌≤◌}
use lib.ListN.{length-replicate, get_or-replicate}
use Rattle.prepare.proofs.Reading.{laid_at, laid_few}
use Rattle.prepare.proofs.Keeping.{going_first, going_next, going_legal, going_group}
use Rattle.prepare.proofs.keep.keep_looped.Goals as goal

lt-within : {i count n : ℕ} → i < count → count ≤ n → i < n
lt-within a b = omega (arith, a, b)

pub loop-i-init : goal.loop-i-init
loop-i-init c = going_first c.requires.fact.0 (length-replicate {A = ℕ} 64 0) (λ g hg. get_or-replicate {A = ℕ} 64 g 0 0 hg) c.identity-joined.ensures

pub loop-i-preserved : goal.loop-i-preserved
loop-i-preserved c = going_next c.requires.fact.0 c.requires.fact.1 c.requires.fact.2 c.requires.fact.3 c.requires.laid.0.within.nodes c.loop-i.invariant _ (laid_at _ c.requires.laid.0 _ (lt-within c.loop-i-test.true c.requires.laid.1)) (going_legal _ c.requires.laid.0 _ (lt-within c.loop-i-test.true c.requires.laid.1)) (going_group _ c.requires.laid.0 _ (lt-within c.loop-i-test.true c.requires.laid.1)) c.keep-p.ensures (sym c.stopped.ensures ∙ c.if-stopped.false) (c.link_kept.ensures.0 c.if-now-eq0.false) (laid_few _ c.requires.laid.0 _ (lt-within c.loop-i-test.true c.requires.laid.1)) (omega (arith, c.keep-p.auto.letter, c.link_kept.auto.letter)) (omega (arith, c.keep-p.auto.low, c.link_kept.auto.low)) (omega (arith, c.keep-p.auto.high, c.link_kept.auto.high)) (omega (arith, c.keep-p.auto.index, c.link_kept.auto.index))
