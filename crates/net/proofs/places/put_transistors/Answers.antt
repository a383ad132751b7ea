use mathlib.Core.Path.{◌≡◌}
use native.Mathlib.Omega.{arith}
use Rattle.format.specs.Circuit.{no_transistor}
use Rattle.net.specs.Net.{net_transistor}
use Rattle.net.proofs.Only.{put_none}
use Rattle.net.proofs.Rows.{transistor_more}
use Rattle.net.proofs.places.put_transistors.Goals as goal

pub loop-i-init : goal.loop-i-init
loop-i-init c =
    (omega arith, put_none 80 400 net_transistor no_transistor c.args.transistors c.args.net.now)

pub loop-i-preserved : goal.loop-i-preserved
loop-i-preserved c =
    let l = c.loop-i in
    let turn =
    transistor_more c.args.transistors l.i c.args.net.now l.net c.put_transistor.new.net l.invariant.0 (omega arith) l.invariant.1 c.put_transistor.ensures in
    turn

pub returns : goal.returns
returns c =
    let l = c.loop-i in
    let done : l.i ≡ c.args.count = omega arith in
    rw done at l.invariant.1
