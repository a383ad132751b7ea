-- `keep::keep_one` meets its contract. Assumes nothing.
use mathlib.Core.Path.{◌∙◌}
use Rattle.net.specs.Net.{net_transistor, net_circuit}
use Rattle.plain.proofs.Flags.{flag_of, one_kept}
use Rattle.plain.proofs.keep.keep_one.Goals as goal

pub returns-then-keep : goal.returns-then-keep
returns-then-keep c =
    let net = c.args.net.now in
    let keep = c.keeps-keep in
    let bit = c.from in
    one_kept (net_circuit net) c.args.values.now c.args.i (net_transistor net c.args.i) c.args.leaf.now c.args.labels.now c.join_ends.new.labels keep.result bit.result keep.ensures (bit.ensures ∙ flag_of keep.result)
    (λ ls len was. rw c.if-keep.true (c.join_ends.ensures ls len was))

pub returns-else-keep : goal.returns-else-keep
returns-else-keep c =
    let net = c.args.net.now in
    let keep = c.keeps-keep in
    let bit = c.from in
    one_kept (net_circuit net) c.args.values.now c.args.i (net_transistor net c.args.i) c.args.leaf.now c.args.labels.now c.args.labels.now keep.result bit.result keep.ensures (bit.ensures ∙ flag_of keep.result)
    (λ ls len was. rw c.if-keep.false was)
