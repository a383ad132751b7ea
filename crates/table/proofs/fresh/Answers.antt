-- Legal lengths, or nothing is written.
use mathlib.Core.Path.{sym, ◌∙◌}
use Rattle.table.proofs.Clearing.{fresh_refused, fresh_done}
use Rattle.table.proofs.fresh.Goals as goal

pub returns-then-not-lengths_legal : goal.returns-then-not-lengths_legal
returns-then-not-lengths_legal c = fresh_refused c.args.letter.now c.args.low.now c.args.high.now (sym c.lengths_legal.ensures ∙ c.if-not-lengths_legal.true)

pub returns : goal.returns
returns c = fresh_done c.args.letter.now c.args.low.now c.args.high.now (sym c.lengths_legal.ensures ∙ c.if-not-lengths_legal.false) _ _ _ c.renew.ensures
