-- `reads::kept_entry` meets its contract. Assumes nothing.
use mathlib.Core.Path.{refl}
use borrow.Author.Tests.{eq-eqb, ne_eqb}
use Rattle.stir.proofs.reads.kept_entry.Goals as goal

pub returns-then-mark-eq0 : goal.returns-then-mark-eq0
returns-then-mark-eq0 c = rw (eq-eqb c.args.mark 0 c.if-mark-eq0.true) refl

pub returns : goal.returns
returns c = rw (ne_eqb c.args.mark 0 c.if-mark-eq0.false) refl
