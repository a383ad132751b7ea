-- `next_change` passes up that the walk exceeds, or gives the next change of the node's sum.
use mathlib.Core.Path.{sym, ap}
use Rattle.rules.specs.Sum as rules
use Rattle.plain.proofs.Changing.{next_exceeds, next_at_lem}
use Rattle.plain.proofs.change.next_change.Goals as goal

pub returns-in_err-sum : goal.returns-in_err-sum
returns-in_err-sum c =
    next_exceeds c.args.net.now c.args.leaf.now c.requires.ready c.args.n c.requires.noded c.args.time c.args.pending
    c.in_err-sum.ensures c.from_residual.result c.from_residual.ensures.0

pub returns : goal.returns
returns c =
    next_at_lem c.args.net.now c.args.leaf.now c.requires.ready c.args.n c.requires.noded c.args.time c.args.pending
    (ap (λ (v : rules.Sum). v.exceeds) (sym c.in_ok-sum.ensures)) c.change_to.ensures
