use mathlib.Core.Path.{sym, ◌∙◌}
use Prim.Native.Nat.{◌+◌}
use native.Mathlib.Omega.{arith}
use lib.ListN.{length}
use Rattle.net.specs.Net.{at, net_circuit}
use Rattle.net.proofs.Laying.{nodes_length}
use Rattle.values.proofs.Series.{storing_first, storing_open, storing_longer, storing_next, storing_stop, storing_done}
use Rattle.stir.specs.Rest.{rest_of}
use Rattle.stir.proofs.Resting.{rest_same}
use Rattle.stir.proofs.Leasting.{leasts_storing}
use Rattle.diagram.specs.Held.{held}
use Rattle.stir.proofs.rest.all_at_rest.Goals as goal

pub loop-i-init : goal.loop-i-init
loop-i-init c = storing_first (length (net_circuit c.args.net.now).nodes) (rest_of (net_circuit c.args.net.now) c.args.time (at c.args.net.now 3) (held c.args.letter.now c.args.low.now c.args.high.now c.args.used) c.args.pending) c.requires.1

pub at_rest-p-requires : goal.at_rest-p-requires
at_rest-p-requires c =
    let l = c.loop-i in (c.requires.0, record { least = omega arith; most = omega (arith, c.loop-i-test.true) }, storing_open l.invariant, omega (arith, c.requires.2.within (l.i + 2) (omega (arith, c.requires.0.within.nodes, c.loop-i-test.true)), storing_longer l.invariant), leasts_storing l.invariant (c.requires.2.within (l.i + 2) (omega (arith, c.requires.0.within.nodes, c.loop-i-test.true))) (c.requires.3 (l.i + 2) (omega (arith, c.requires.0.within.nodes, c.loop-i-test.true))))

pub returns-then-stopped : goal.returns-then-stopped
returns-then-stopped c =
    let l = c.loop-i in storing_stop l.invariant _ c.at_rest-p.ensures (λ p h. rest_same l.invariant (net_circuit c.args.net.now) c.args.time c.args.pending (c.requires.2.within (l.i + 2) (omega (arith, c.requires.0.within.nodes, c.loop-i-test.true))) p) (sym c.stopped.ensures ∙ c.if-stopped.true) (omega (arith, nodes_length c.args.net.now, c.loop-i-test.true)) _ _

pub loop-i-preserved : goal.loop-i-preserved
loop-i-preserved c =
    let l = c.loop-i in storing_next l.invariant _ c.at_rest-p.ensures (λ p h. rest_same l.invariant (net_circuit c.args.net.now) c.args.time c.args.pending (c.requires.2.within (l.i + 2) (omega (arith, c.requires.0.within.nodes, c.loop-i-test.true))) p) (sym c.stopped.ensures ∙ c.if-stopped.false) (omega (arith, nodes_length c.args.net.now, c.loop-i-test.true)) (omega (arith, nodes_length c.args.net.now, c.requires.0.within.nodes)) c.at_rest-p.auto.letter c.at_rest-p.auto.low c.at_rest-p.auto.high c.at_rest-p.auto.index

pub returns : goal.returns
returns c = storing_done c.loop-i.invariant (omega (arith, nodes_length c.args.net.now, c.loop-i-test.false))
