use mathlib.Core.Path.{◌≡◌}
use native.Mathlib.Omega.{arith}
use Rattle.format.specs.Circuit.{no_node}
use Rattle.net.specs.Net.{net_node}
use Rattle.net.proofs.Only.{put_none}
use Rattle.net.proofs.Rows.{node_more}
use Rattle.net.proofs.places.put_nodes.Goals as goal

pub loop-i-init : goal.loop-i-init
loop-i-init c =
    (omega arith, put_none 8 80 net_node no_node c.args.nodes c.args.net.now)

pub loop-i-preserved : goal.loop-i-preserved
loop-i-preserved c =
    let l = c.loop-i in
    let turn =
    node_more c.args.nodes l.i c.args.net.now l.net c.put_node.new.net l.invariant.0 (omega arith) l.invariant.1 c.put_node.ensures in
    turn

pub returns : goal.returns
returns c =
    let l = c.loop-i in
    let done : l.i ≡ c.args.count = omega arith in
    rw done at l.invariant.1
