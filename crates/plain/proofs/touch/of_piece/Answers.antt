-- `touch::of_piece` meets its contract. Assumes nothing.
use mathlib.Core.Path.{ap₂}
use mathlib.Core.Bool.{◌||◌}
use Rattle.plain.proofs.touch.of_piece.Goals as goal

pub in_piece-requires : goal.in_piece-requires
in_piece-requires c = record { laid = c.requires.laid; n_bound = (c.requires.n_bound.0, (c.requires.laid.0.within.transistor c.args.i c.requires.n_bound.1).first) }

pub in_piece-requires-2 : goal.in_piece-requires-2
in_piece-requires-2 c = record { laid = c.requires.laid; n_bound = (c.requires.n_bound.0, (c.requires.laid.0.within.transistor c.args.i c.requires.n_bound.1).second) }

pub returns : goal.returns
returns c = ap₂ ◌||◌ c.in_piece.ensures c.in_piece-2.ensures
