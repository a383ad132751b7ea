-- `change_by`: reconsidered or not, by the leaf of the values after T.
use Rattle.plain.proofs.Settling.{between_ready, settles}
use Rattle.plain.proofs.settle.change_by.Goals as goal

pub considered-moves-requires : goal.considered-moves-requires
considered-moves-requires c = (c.requires.0, c.requires.2, c.requires.3.most)

pub settled-requires : goal.settled-requires
settled-requires c = (c.requires.3, λ _. between_ready c.requires.0 c.requires.1)

pub returns : goal.returns
returns c s t sb sa waits = settles c.requires.0 c.requires.3 s t sa c.args.time _ waits c.args.all c.requires.1 _ _ (c.considered-moves.ensures s t sb sa) c.settled.ensures
