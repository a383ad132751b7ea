use Prim.Native.Nat.{◌<◌}
use Rattle.format.specs.declared.Transistor.{Transistor}
use mathlib.Core.Path.{sym, subst}
use lib.ListN.{length}
use Rattle.net.specs.Net.{net_circuit}
use Rattle.net.proofs.Laying.{nodes_length, transistors_length, transistor_at_lem}
use Rattle.plain.specs.Leaves.{OneKept}
use Rattle.plain.proofs.Values.{wired}
use Rattle.plain.proofs.Leaves.{kept_none, kept_more}
use native.Mathlib.Omega.{arith}
use Rattle.plain.proofs.keep.keep_all.Goals as goal

pub loop-i-init : goal.loop-i-init
loop-i-init c =
    let net = c.args.net.now in
    let few = c.requires.laid.within.nodes in
    kept_none (net_circuit net) c.args.values.now c.args.leaf.now c.args.labels.now (omega (arith, nodes_length net)) c.requires.column.3

pub loop-i-preserved : goal.loop-i-preserved
loop-i-preserved c =
    let l = c.loop-i in
    let net = c.args.net.now in
    let values = c.args.values.now in
    let one = c.keep_one in
    let below = c.loop-i-test.true in
    let in_list : l.i < length (net_circuit net).transistors = omega (arith, transistors_length net) in
    let next = c.keep_one.new.leaf in
    let after = c.keep_one.new.labels in
    let is = subst (λ (t : Transistor). OneKept (net_circuit net) values l.i t l.leaf next l.labels after) (sym (transistor_at_lem net l.i below)) one.ensures in
    kept_more (net_circuit net) values l.i c.args.leaf.now l.leaf next l.labels after c.requires.column.0 (omega (arith, l.auto.leaf, c.requires.column.1, c.requires.laid.within.transistors)) in_list (wired net c.requires.laid l.i in_list) l.invariant is
