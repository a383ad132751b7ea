use borrow.Author.Rules.{rules}
use mathlib.Core.Path.{◌≡◌, sym, ◌∙◌}
use native.Mathlib.Omega.{arith}
use lib.ListN.{length}
use Rattle.net.specs.Net.{letters_place, at, net_circuit}
use Rattle.net.proofs.Laying.{nodes_length}
use Rattle.record.proofs.Leasts.{leasts_less, leasts_same}
use Rattle.values.proofs.Arriving.{arrivals, values_used, changes_used, arrive_next, arrive_done}
use Rattle.values.proofs.Series.{storing_first, storing_open, storing_number, storing_longer, storing_next, storing_stop, storing_done}
use Rattle.diagram.specs.Held.{held}
use Rattle.values.proofs.arrive.arrive.Goals as goal

pub loop-i-init : goal.loop-i-init
loop-i-init c =
    let net = c.args.net.now in
    storing_first (length (net_circuit net).nodes) (arrivals (net_circuit net) (held c.args.letter.now c.args.low.now c.args.high.now c.args.r.used) c.args.r.used c.args.r.values c.args.r.changes c.args.time) c.requires.laid.1

pub value_after-p-requires : goal.value_after-p-requires
value_after-p-requires c =
    let full : (length c.args.r.values ≡ 24) × (length c.args.r.changes ≡ 24) = ((search rules, search rules)) in
    let l = c.loop-i in
    let net = c.args.net.now in
    let small = c.loop-i-test.true in
    let value = values_used net c.args.letter.now c.args.low.now c.args.high.now c.args.r (full).0 (full).1 c.requires.laid.0.within.nodes c.requires.laid.1.legible c.requires.r_value l.i small in
    let change = changes_used net c.args.letter.now c.args.low.now c.args.high.now c.args.r (full).0 (full).1 c.requires.laid.0.within.nodes c.requires.laid.1.legible c.requires.r_value l.i small in
    let more = storing_longer l.invariant in
    record { laid = (c.requires.laid.0, storing_open l.invariant); n_bound = (omega (arith, small), omega arith, omega arith); leasts = leasts_less (leasts_same c.requires.leasts (storing_number l.invariant)) (omega arith) }

pub returns-then-stopped : goal.returns-then-stopped
returns-then-stopped c =
    let full : (length c.args.r.values ≡ 24) × (length c.args.r.changes ≡ 24) = ((search rules, search rules)) in
    let l = c.loop-i in
    let net = c.args.net.now in
    arrive_done (net_circuit net) (held c.args.letter.now c.args.low.now c.args.high.now c.args.r.used) c.args.r (at net letters_place) c.args.time
    (storing_stop l.invariant _ c.value_after-p.ensures (λ p h. arrive_next net c.args.letter.now c.args.low.now c.args.high.now c.args.r (full).0 (full).1 c.requires.laid.0.within.nodes c.requires.laid.1.legible c.requires.r_value c.args.time l.i p _ c.loop-i-test.true (λ e g. storing_number l.invariant e p g)) (sym c.stopped.ensures ∙ c.if-stopped.true) (omega (arith, nodes_length net, c.loop-i-test.true)) _ _)

pub loop-i-preserved : goal.loop-i-preserved
loop-i-preserved c =
    let full : (length c.args.r.values ≡ 24) × (length c.args.r.changes ≡ 24) = ((search rules, search rules)) in
    let l = c.loop-i in
    let net = c.args.net.now in
    storing_next l.invariant _ c.value_after-p.ensures (λ p h. arrive_next net c.args.letter.now c.args.low.now c.args.high.now c.args.r (full).0 (full).1 c.requires.laid.0.within.nodes c.requires.laid.1.legible c.requires.r_value c.args.time l.i p _ c.loop-i-test.true (λ e g. storing_number l.invariant e p g)) (sym c.stopped.ensures ∙ c.if-stopped.false) (omega (arith, nodes_length net, c.loop-i-test.true)) (omega (arith, nodes_length net, c.requires.laid.0.within.nodes)) c.value_after-p.auto.letter c.value_after-p.auto.low c.value_after-p.auto.high c.value_after-p.auto.index

pub returns : goal.returns
returns c =
    let l = c.loop-i in
    let net = c.args.net.now in
    arrive_done (net_circuit net) (held c.args.letter.now c.args.low.now c.args.high.now c.args.r.used) c.args.r (at net letters_place) c.args.time
    (storing_done l.invariant (omega (arith, nodes_length net, c.loop-i-test.false)))
