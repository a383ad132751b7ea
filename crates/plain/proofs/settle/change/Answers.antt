-- `change`: by the transistors that the values after T keep, and the pieces that they make.
use Rattle.plain.proofs.settle.change.Goals as goal

pub kept-parts-requires : goal.kept-parts-requires
kept-parts-requires c = record { laid = c.requires.0.cell; column = c.requires.0.after }

pub change_by-requires : goal.change_by-requires
change_by-requires c = (c.requires.0, c.kept-parts.ensures.0, c.kept-parts.ensures.1, c.requires.1)

pub returns : goal.returns
returns c s t sb sa waits = c.change_by.ensures s t sb sa waits
