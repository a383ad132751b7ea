-- `tried`: nothing is stored where few letters are left.
use mathlib.Core.Path.{refl, sym}
use mathlib.Core.Bool.{true≢false}
use Rattle.evaluate.proofs.split.tried.Goals as goal

pub returns-then-left-lt-FEW : goal.returns-then-left-lt-FEW
returns-then-left-lt-FEW c = ((λ e. absurd (true≢false (sym e))), λ e. (refl, refl, refl, refl))

pub attempt-requires : goal.attempt-requires
attempt-requires c = c.requires

pub returns : goal.returns
returns c = c.attempt.ensures
