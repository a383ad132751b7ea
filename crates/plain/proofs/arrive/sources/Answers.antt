use mathlib.Core.Path.{◌≡◌, sym, ◌∙◌, ap}
use Prim.Native.Nat.{◌+◌, ◌<◌}
use native.Mathlib.Omega.{arith}
use Rattle.format.specs.declared.Node.{Node}
use Rattle.format.specs.Circuit.{node_record}
use Rattle.rules.specs.Arrive.{source_at}
use Rattle.net.specs.Net.{at, net_circuit}
use Rattle.plain.proofs.Cell.{net_node_lem}
use Rattle.plain.proofs.Fill.{filled_more}
use Rattle.plain.proofs.arrive.sources.Goals as goal

pub loop-n-preserved : goal.loop-n-preserved
loop-n-preserved c =
    let l = c.loop-n in
    let net = c.args.net.now in
    let most : l.n < 2 + at net 0 = omega (arith, c.loop-n-test.true) in
    let e : c.source_value.result ≡ source_at (node_record (net_circuit net) l.n).start c.args.p =
    c.source_value.ensures ∙ ap (λ (x : Node). source_at x.start c.args.p) (sym (net_node_lem net l.n l.auto.n most)) in
    filled_more l.invariant c.source_value.result l.auto.n (omega (arith, most, c.requires.within.nodes)) e
