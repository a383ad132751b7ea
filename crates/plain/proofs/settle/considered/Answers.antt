-- `considered`: every inner node, or those whose piece is touched.
use Rattle.plain.proofs.settle.considered.Goals as goal

pub is_inner-requires : goal.is_inner-requires
is_inner-requires c = (c.requires.0.cell.long, c.requires.0.cell.within, c.requires.2)

pub returns-then-all : goal.returns-then-all
returns-then-all c s t sb sa = rw c.if-all.true c.is_inner.ensures

pub touched-requires : goal.touched-requires
touched-requires c = record { laid = (c.requires.0.cell, c.requires.1); column = (c.requires.0.before, c.requires.0.after, c.requires.2) }

pub returns : goal.returns
returns c s t sb sa = rw c.if-all.false (c.touched.ensures s t sb sa)
