-- `settled`: no seed is reached, or by the numbers of the leaf.
use mathlib.Core.Path.{sym, ◌∙◌}
use Rattle.descent.proofs.Leaf.{first_ready, first_settles}
use Rattle.descent.proofs.settle.settled.Goals as goal

pub returns-then-not-moves : goal.returns-then-not-moves
returns-then-not-moves c = first_settles c.requires.0 c.args.time _ (rw (sym c.requires.1 ∙ c.if-not-moves.true) c.pending_after.ensures)

pub moved-requires : goal.moved-requires
moved-requires c = (first_ready c.requires.0, c.requires.0.node.node)

pub returns : goal.returns
returns c = first_settles c.requires.0 c.args.time _ (rw (sym c.requires.1 ∙ c.if-not-moves.false) c.moved.ensures)
