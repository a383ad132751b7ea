-- `marks::marked` meets its contract. Assumes nothing.
use mathlib.Core.Path.{refl}
use Rattle.stir.proofs.marks.marked.Goals as goal

pub returns-then-stirs : goal.returns-then-stirs
returns-then-stirs c = rw c.if-stirs.true refl

pub returns : goal.returns
returns c = rw c.if-stirs.false refl
