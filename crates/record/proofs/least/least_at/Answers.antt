-- `least::least_at` meets its contract: a terminal has one number, and a branch the smaller of its parts', which are earlier entries. Assumes nothing.
use mathlib.Core.Path.{◌∙◌}
use native.Mathlib.Omega.{arith}
use Rattle.functions.proofs.Branches.{low_earlier, high_earlier}
use Rattle.record.proofs.Entry.{least_leaf}
use Rattle.record.proofs.Leasts.{leasts_branch}
use Rattle.record.proofs.least.least_at.Goals as goal

pub returns-then-letter-i : goal.returns-then-letter-i
returns-then-letter-i c = least_leaf c.requires.legible.0 c.args.e c.requires.legible.1 c.if-letter-i.true (omega (arith, c.shared_slice_known-then-letter-i-1.given c.args.e))

pub bounds-least-a : goal.bounds-least-a
bounds-least-a c = omega (arith, low_earlier c.requires.legible.0 c.args.e c.requires.legible.1 c.if-letter-i.false, c.requires.leasts.within)

pub bounds-least-b : goal.bounds-least-b
bounds-least-b c = omega (arith, high_earlier c.requires.legible.0 c.args.e c.requires.legible.1 c.if-letter-i.false, c.requires.leasts.within)

pub returns : goal.returns
returns c = c.least.ensures ∙ leasts_branch c.requires.legible.0 c.args.e c.requires.legible.1 c.if-letter-i.false c.requires.leasts
