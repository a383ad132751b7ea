use Prim.Native.Nat.{◌+◌, ◌<◌}
use native.Mathlib.Omega.{arith}
use Rattle.net.specs.Net.{at}
use Rattle.net.proofs.Laying.{nodes_length}
use Rattle.plain.proofs.arrive.values_after.Goals as goal

pub value_after-requires : goal.value_after-requires
value_after-requires c =
    let l = c.loop-n in
    let most : l.n < 2 + at c.args.net.now 0 = omega (arith, c.loop-n-test.true) in
    (c.requires.0, most, c.requires.1.bits l.n (omega (arith, nodes_length c.args.net.now)))
