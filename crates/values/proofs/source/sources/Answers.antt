use mathlib.Core.Path.{sym, ◌∙◌}
use Prim.Native.Nat.{ℕ}
use lib.ListN.{length}
use native.Mathlib.Omega.{arith}
use Rattle.rules.specs.State.{value_at}
use Rattle.rules.specs.Step.{started}
use Rattle.net.specs.Net.{net_circuit}
use Rattle.net.proofs.Laying.{nodes_length}
use Rattle.values.proofs.Arriving.{start_same}
use Rattle.values.proofs.Series.{storing_first, storing_open, storing_next, storing_stop, storing_done}
use Rattle.values.proofs.source.sources.Goals as goal

pub loop-i-init : goal.loop-i-init
loop-i-init c = storing_first (length (net_circuit c.args.net.now).nodes) (λ (n : ℕ) (p : ℕ). value_at (started (net_circuit c.args.net.now) p) n) c.requires.1

pub source-p-requires : goal.source-p-requires
source-p-requires c =
    let l = c.loop-i in
    (storing_open l.invariant, (c.requires.0.within.node l.i c.loop-i-test.true).source)

pub returns-then-stopped : goal.returns-then-stopped
returns-then-stopped c =
    let l = c.loop-i in
    let net = c.args.net.now in
    storing_stop l.invariant _ c.source-p.ensures (λ p h. start_same net l.i p c.loop-i-test.true) (sym c.stopped.ensures ∙ c.if-stopped.true) (omega (arith, nodes_length net, c.loop-i-test.true)) _ _

pub loop-i-preserved : goal.loop-i-preserved
loop-i-preserved c =
    let l = c.loop-i in
    let net = c.args.net.now in
    storing_next l.invariant _ c.source-p.ensures (λ p h. start_same net l.i p c.loop-i-test.true) (sym c.stopped.ensures ∙ c.if-stopped.false) (omega (arith, nodes_length net, c.loop-i-test.true)) (omega (arith, nodes_length net, c.requires.0.within.nodes)) c.source-p.auto.letter c.source-p.auto.low c.source-p.auto.high c.source-p.auto.index

pub returns : goal.returns
returns c = storing_done c.loop-i.invariant (omega (arith, nodes_length c.args.net.now, c.loop-i-test.false))
