-- `narrow`: the same roots where none has become entry 0, else those that matter to the piece.
use Rattle.descent.proofs.Narrow.{narrowed_piece, narrowed_same}
use Rattle.descent.proofs.live.narrow.Goals as goal

pub returns-then-not-some_zero : goal.returns-then-not-some_zero
returns-then-not-some_zero c = record { narrowed = narrowed_same c.copy.ensures.0 c.requires.live.0.long; live_2 = c.copy.ensures.1 }

pub returns : goal.returns
returns c = record { narrowed = narrowed_piece c.requires.inner c.piece-marks.ensures c.sole_seed-sole.ensures c.keep.ensures.selected; live_2 = c.keep.ensures.live_2 }
