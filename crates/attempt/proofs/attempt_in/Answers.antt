-- `attempt_in`: the parts of the entries are prepared, and the roots of the node settle its next change by them.
use mathlib.Core.Path.{sym, ◌∙◌}
use mathlib.Core.Bool.{true≢false}
use Rattle.attempt.proofs.First.{room_sized}
use Rattle.attempt.proofs.Trying.{before_used, after_used, pending_used, after_bits, tried_rooted, tried_outcome}
use Rattle.attempt.proofs.attempt_in.Goals as goal

pub prepare-q-requires : goal.prepare-q-requires
prepare-q-requires c = record { laid = (c.requires.0.cell, c.requires.1.legible, room_sized c.requires.3); all_used = (before_used c.requires.0 c.requires.1 c.requires.2 c.part.ensures c.part-2.ensures, after_used c.requires.0 c.requires.1 c.requires.2 c.part.ensures c.part-2.ensures, pending_used c.requires.0 c.requires.1 c.requires.2 c.part.ensures c.part-2.ensures, after_bits c.requires.0 c.requires.1 c.requires.2 c.part.ensures c.part-2.ensures) }

pub descend-put-requires : goal.descend-put-requires
descend-put-requires c = record { rooted = tried_rooted c.requires.0 c.requires.1 c.requires.2 c.part.ensures c.part-2.ensures (c.prepare-q.ensures.0 (sym c.stopped.ensures ∙ c.if-stopped.false)) c.roots_for-roots.ensures; fact = c.requires.1 }

pub returns : goal.returns
returns c = ((λ e. tried_outcome c.requires.0 c.requires.1 c.requires.2 c.part.ensures c.part-2.ensures (c.prepare-q.ensures.0 (sym c.stopped.ensures ∙ c.if-stopped.false)) c.roots_for-roots.ensures c.args.time c.descend-put.ensures), λ e. absurd (true≢false e))
