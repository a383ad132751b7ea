use mathlib.Core.Path.{refl, sym, ◌∙◌}
use Prim.Native.Nat.{◌+◌}
use lib.ListN.{length}
use Rattle.net.specs.Net.{at, net_circuit}
use Rattle.net.proofs.Laying.{nodes_length}
use Rattle.values.proofs.Series.{storing_first, storing_open, storing_longer, storing_next, storing_stop, storing_done}
use Rattle.stir.proofs.Leasting.{leasts_storing}
use Rattle.marked.specs.Mixed.{mixed_of}
use Rattle.marked.proofs.Mixing.{mixed_same}
use native.Mathlib.Omega.{arith}
use Rattle.diagram.specs.Held.{held}
use Rattle.marked.proofs.nodes.all_by_marks.Goals as goal

pub loop-i-init : goal.loop-i-init
loop-i-init c = (storing_first (length (net_circuit c.args.net.now).nodes) (mixed_of (net_circuit c.args.net.now) c.args.time (at c.args.net.now 3) (held c.args.letter.now c.args.low.now c.args.high.now c.args.used) (held c.args.wletter.now c.args.wlow.now c.args.whigh.now c.args.wused) c.args.roots c.args.marks c.args.pending) c.requires.1, refl)

pub by_mark-p-requires : goal.by_mark-p-requires
by_mark-p-requires c =
    let l = c.loop-i in (c.requires.0, record { least = omega arith; most = omega (arith, c.loop-i-test.true) }, storing_open l.invariant.0, omega (arith, c.requires.2.within (l.i + 2) (omega (arith, c.requires.0.cell.within.nodes, c.loop-i-test.true)), storing_longer l.invariant.0), leasts_storing l.invariant.0 (c.requires.2.within (l.i + 2) (omega (arith, c.requires.0.cell.within.nodes, c.loop-i-test.true))) (c.requires.3 (l.i + 2) (omega (arith, c.requires.0.cell.within.nodes, c.loop-i-test.true))))

pub returns-then-stopped : goal.returns-then-stopped
returns-then-stopped c =
    let l = c.loop-i in storing_stop l.invariant.0 _ c.by_mark-p.ensures (λ p h. mixed_same l.invariant.0 (net_circuit c.args.net.now) c.args.time (held c.args.wletter.now c.args.wlow.now c.args.whigh.now c.args.wused) c.args.roots c.args.marks c.args.pending (c.requires.2.within (l.i + 2) (omega (arith, c.requires.0.cell.within.nodes, c.loop-i-test.true))) p) (sym c.stopped.ensures ∙ c.if-stopped.true) (omega (arith, nodes_length c.args.net.now, c.loop-i-test.true)) _ _

pub loop-i-preserved : goal.loop-i-preserved
loop-i-preserved c =
    let l = c.loop-i in (storing_next l.invariant.0 _ c.by_mark-p.ensures (λ p h. mixed_same l.invariant.0 (net_circuit c.args.net.now) c.args.time (held c.args.wletter.now c.args.wlow.now c.args.whigh.now c.args.wused) c.args.roots c.args.marks c.args.pending (c.requires.2.within (l.i + 2) (omega (arith, c.requires.0.cell.within.nodes, c.loop-i-test.true))) p) (sym c.stopped.ensures ∙ c.if-stopped.false) (omega (arith, nodes_length c.args.net.now, c.loop-i-test.true)) (omega (arith, nodes_length c.args.net.now, c.requires.0.cell.within.nodes)) c.by_mark-p.auto.letter c.by_mark-p.auto.low c.by_mark-p.auto.high c.by_mark-p.auto.index, omega (arith, l.invariant.1, c.by_mark-p.auto.memo))

pub returns : goal.returns
returns c = storing_done c.loop-i.invariant.0 (omega (arith, nodes_length c.args.net.now, c.loop-i-test.false))
