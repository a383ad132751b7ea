-- `degree_of` reads the count at its place.
use mathlib.Core.Path.{sym, ◌∙◌}
use Rattle.net.proofs.NodeArms.{arms_length}
use Rattle.plain.proofs.reads.degree_of.Goals as goal

pub returns : goal.returns
returns c = c.read.ensures ∙ sym (arms_length c.args.net.now c.requires.net c.args.n c.requires.n_bound)
