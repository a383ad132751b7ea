use Prim.Native.Nat.{◌+◌}
use mathlib.Core.List.{[]}
use mathlib.Core.Path.{◌≡◌, ◌∙◌}
use native.Mathlib.Omega.{arith}
use lib.ListN.{get_or}
use Rattle.net.specs.Net.{net_circuit}
use Rattle.net.proofs.Listed.{armed_none, ends_at, second_room, armed_more}
use Rattle.net.proofs.arms.put_arms.Goals as goal

pub loop-i-init : goal.loop-i-init
loop-i-init c =
    (c.requires.1.transistors, c.requires.0, armed_none (net_circuit c.args.net.now).transistors c.args.net.now c.requires.2)

pub put_arm-requires : goal.put_arm-requires
put_arm-requires c =
    let l = c.loop-i in
    let ends = ends_at c.args.net.now l.net l.i c.requires.1 l.invariant.2.rest c.loop-i-test.true in
    (l.invariant.1, ends.first_in, omega (arith, ends.few, l.invariant.2.degree (get_or l.net (208 + l.i) 0) ends.first_in))

pub put_arm-requires-in-loop-i : goal.put_arm-requires-in-loop-i
put_arm-requires-in-loop-i c =
    let l = c.loop-i in
    let ends = ends_at c.args.net.now l.net l.i c.requires.1 l.invariant.2.rest c.loop-i-test.true in
    let put = c.put_arm in
    let room = second_room (net_circuit c.args.net.now).transistors l.i _ _ c.args.net.now l.net put.new.net [] l.invariant.1 l.invariant.2 ends put.ensures in
    (put.auto.net ∙ l.invariant.1, ends.second_in, room)

pub loop-i-preserved : goal.loop-i-preserved
loop-i-preserved c =
    let l = c.loop-i in
    let ends = ends_at c.args.net.now l.net l.i c.requires.1 l.invariant.2.rest c.loop-i-test.true in
    let one = c.put_arm in
    let two = c.put_arm-in-loop-i in
    let more = armed_more (net_circuit c.args.net.now).transistors l.i _ _ c.args.net.now l.net one.new.net two.new.net l.invariant.1 l.invariant.2 ends one.ensures two.ensures in
    (l.invariant.0, more.rest.long ∙ c.requires.0, more)

pub returns : goal.returns
returns c =
    let l = c.loop-i in
    let done : l.i ≡ get_or c.args.net.now 1 0 = omega arith in
    rw done at l.invariant.2
