-- `keep::join_ends` meets its contract. Assumes nothing.
use mathlib.Core.Path.{sym, ◌∙◌}
use Rattle.net.specs.Net.{net_transistor, net_circuit}
use Rattle.net.proofs.Laying.{nodes_length}
use Rattle.net.proofs.Joins.{labels_joined}
use native.Mathlib.Omega.{arith}
use Rattle.plain.proofs.keep.join_ends.Goals as goal

pub join-requires : goal.join-requires
join-requires c =
    let t = c.requires.laid.within.transistor c.args.i c.requires.labels_len.1 in
    let few = c.requires.laid.within.nodes in
    (omega (arith, c.requires.labels_len.0), omega (arith, t.first), omega (arith, t.second))

pub returns-then-between_inner : goal.returns-then-between_inner
returns-then-between_inner c =
    let net = c.args.net.now in
    let t = c.requires.laid.within.transistor c.args.i c.requires.labels_len.1 in
    let few = c.requires.laid.within.nodes in
    let n = nodes_length net in
    labels_joined 0 (net_circuit net) (net_transistor net c.args.i) c.args.labels.now c.join.new.column (omega arith) (omega (arith, t.first)) (omega (arith, t.second))
    (sym c.between_inner.ensures ∙ c.if-between_inner.true) c.join.ensures

pub returns-else-between_inner : goal.returns-else-between_inner
returns-else-between_inner c = λ ls len was. let e = sym c.between_inner.ensures ∙ c.if-between_inner.false in rw e was
