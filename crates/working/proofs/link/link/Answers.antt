use mathlib.Core.Path.{sym, ◌∙◌}
use Rattle.working.proofs.Fill.{rows_next}
use Rattle.working.proofs.Linking.{row_kept}
use Rattle.working.proofs.link.link.Goals as goal

pub loop-x-preserved : goal.loop-x-preserved
loop-x-preserved c = rows_next c.loop-x.invariant (c.link_row-r.ensures.0 (sym c.stopped.ensures ∙ c.if-stopped.false)) (λ y p hy hp. row_kept c.requires.0 c.args.joined _ _ _ c.loop-x.invariant c.requires.4 c.requires.1 c.requires.2 c.requires.3 c.loop-x-test.true y p hy hp) c.loop-x-test.true c.link_row-r.auto.letter c.link_row-r.auto.low c.link_row-r.auto.high c.link_row-r.auto.index
