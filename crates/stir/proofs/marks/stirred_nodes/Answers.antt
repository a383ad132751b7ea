use native.Mathlib.Omega.{arith}
use Rattle.stir.proofs.Marking.{naming_first, naming_next, naming_done}
use Rattle.stir.proofs.marks.stirred_nodes.Goals as goal

pub stirred_groups-groups-requires : goal.stirred_groups-groups-requires
stirred_groups-groups-requires c = record { net = c.requires.net; before_len = (c.requires.before_len.0, c.requires.before_len.1) }

pub loop-n-init : goal.loop-n-init
loop-n-init c = naming_first c.args.net.now c.stirred_groups-groups.result c.args.all

pub node_mark-requires : goal.node_mark-requires
node_mark-requires c = (c.requires.net, omega (arith, c.loop-n-test.true))

pub loop-n-preserved : goal.loop-n-preserved
loop-n-preserved c = naming_next c.loop-n.invariant (omega (arith, c.loop-n-test.true, c.requires.net.within.nodes)) c.node_mark.ensures

pub returns : goal.returns
returns c = naming_done c.requires.net c.stirred_groups-groups.ensures c.loop-n.invariant (omega (arith, c.loop-n-test.false))
