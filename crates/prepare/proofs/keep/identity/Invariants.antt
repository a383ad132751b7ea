-- `identity` meets its contract: down the diagonal. Assumes nothing.
use Rattle.prepare.proofs.Keeping.{Diagonal}
use Rattle.prepare.proofs.keep.identity.Given as goal

abbrev pub invariant-loop-x : goal.invariant-loop-x
invariant-loop-x l = Diagonal l.out l.x
