-- `links::link` meets its contract. Assumes nothing.
use mathlib.Core.Path.{sym, ◌∙◌}
use native.Mathlib.Omega.{arith}
use Rattle.net.specs.Net.{net_transistor, net_circuit}
use Rattle.net.proofs.Laying.{nodes_length}
use Rattle.net.proofs.Joins.{linked_joined, linked_apart}
use Rattle.net.proofs.links.link.Goals as goal

pub join-requires : goal.join-requires
join-requires c =
    let t = c.requires.1.transistor c.args.i c.requires.2 in
    let few = c.requires.1.nodes in
    (omega (arith, c.requires.0), omega (arith, t.first), omega (arith, t.second))

pub returns-then-between_inner : goal.returns-then-between_inner
returns-then-between_inner c =
    let net = c.args.net.now in
    let t = c.requires.1.transistor c.args.i c.requires.2 in
    let few = c.requires.1.nodes in
    let n = nodes_length net in
    linked_joined (net_circuit net) (net_transistor net c.args.i) net c.join.new.column (omega arith) (omega (arith, t.first)) (omega (arith, t.second))
    (sym c.between_inner.ensures ∙ c.if-between_inner.true) c.join.ensures

pub returns-else-between_inner : goal.returns-else-between_inner
returns-else-between_inner c =
    linked_apart (net_circuit c.args.net.now) (net_transistor c.args.net.now c.args.i) c.args.net.now (sym c.between_inner.ensures ∙ c.if-between_inner.false)
