use mathlib.Core.Path.{sym, ◌∙◌}
use Rattle.working.proofs.Fill.{filling_next}
use Rattle.working.proofs.Linking.{cell_kept}
use Rattle.working.proofs.link.link_cells.Goals as goal

pub loop-y-preserved : goal.loop-y-preserved
loop-y-preserved c = filling_next c.loop-y.invariant c.link_cell-p.ensures (sym c.stopped.ensures ∙ c.if-stopped.false) (λ p hp. cell_kept c.requires.0 c.loop-y.invariant.filled.extends (c.requires.3 _ c.loop-y-test.true) c.requires.1 (c.requires.5 _ c.loop-y-test.true) c.requires.2 (c.requires.4 _ c.loop-y-test.true) p) c.loop-y-test.true c.link_cell-p.auto.letter c.link_cell-p.auto.low c.link_cell-p.auto.high c.link_cell-p.auto.index
