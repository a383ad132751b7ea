-- `gathered` meets its contract. Assumes nothing.
use mathlib.Core.Path.{sym, ◌∙◌}
use Rattle.moment.proofs.Moments.{gathers_none}
use Rattle.moment.proofs.gathered.Goals as goal

pub returns-then-stopped : goal.returns-then-stopped
returns-then-stopped c = gathers_none c.nothing.ensures (sym c.stopped.ensures ∙ c.if-stopped.true)
