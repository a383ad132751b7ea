use mathlib.Core.Path.{refl, ◌∙◌, sym}
use lib.ListN.{length}
use Rattle.net.specs.Net.{at, net_circuit}
use Rattle.net.proofs.Laying.{nodes_length}
use Rattle.values.proofs.Series.{storing_first, storing_open, storing_next, storing_stop, storing_done}
use Rattle.marked.specs.Changes.{change_of}
use Rattle.marked.proofs.Entries.{lent_again}
use Rattle.changes.proofs.Evaluating.{next_evaluable, next_same}
use native.Mathlib.Omega.{arith}
use Rattle.diagram.specs.Held.{held}
use Rattle.changes.proofs.entries.all_by_entries.Goals as goal

pub loop-i-init : goal.loop-i-init
loop-i-init c = (storing_first (length (net_circuit c.args.net.now).nodes) (change_of (net_circuit c.args.net.now) c.args.time c.args.all (at c.args.net.now 3) (held c.args.letter.now c.args.low.now c.args.high.now c.args.used) c.args.before c.args.after c.args.pending) c.requires.net.1, record { letter_long = refl; low_long = refl; high_long = refl; index_long = refl })

pub by_entries-p-requires : goal.by_entries-p-requires
by_entries-p-requires c =
    let l = c.loop-i in (c.requires.net.0, record { least = omega arith; most = omega (arith, c.loop-i-test.true) }, storing_open l.invariant.0, next_evaluable l.invariant.0 (record { first = c.requires.value_entries.0; second = c.requires.value_entries.1; third = c.requires.value_entries.2 }) (omega (arith, c.requires.net.0.within.nodes, c.loop-i-test.true)) c.entries_with-entries.ensures, lent_again l.invariant.1 c.requires.net.2)

pub returns-then-stopped : goal.returns-then-stopped
returns-then-stopped c = storing_stop c.loop-i.invariant.0 _ c.by_entries-p.ensures (λ p h. next_same c.loop-i.invariant.0 (record { first = c.requires.value_entries.0; second = c.requires.value_entries.1; third = c.requires.value_entries.2 }) (omega (arith, c.requires.net.0.within.nodes, c.loop-i-test.true)) c.entries_with-entries.ensures (net_circuit c.args.net.now) c.args.time c.args.all p) (sym c.stopped.ensures ∙ c.if-stopped.true) (omega (arith, nodes_length c.args.net.now, c.loop-i-test.true)) _ _

pub loop-i-preserved : goal.loop-i-preserved
loop-i-preserved c = (storing_next c.loop-i.invariant.0 _ c.by_entries-p.ensures (λ p h. next_same c.loop-i.invariant.0 (record { first = c.requires.value_entries.0; second = c.requires.value_entries.1; third = c.requires.value_entries.2 }) (omega (arith, c.requires.net.0.within.nodes, c.loop-i-test.true)) c.entries_with-entries.ensures (net_circuit c.args.net.now) c.args.time c.args.all p) (sym c.stopped.ensures ∙ c.if-stopped.false) (omega (arith, nodes_length c.args.net.now, c.loop-i-test.true)) (omega (arith, nodes_length c.args.net.now, c.requires.net.0.within.nodes)) c.by_entries-p.auto.letter c.by_entries-p.auto.low c.by_entries-p.auto.high c.by_entries-p.auto.index, record { letter_long = c.by_entries-p.auto.wletter ∙ c.loop-i.invariant.1.letter_long; low_long = c.by_entries-p.auto.wlow ∙ c.loop-i.invariant.1.low_long; high_long = c.by_entries-p.auto.whigh ∙ c.loop-i.invariant.1.high_long; index_long = c.by_entries-p.auto.windex ∙ c.loop-i.invariant.1.index_long })

pub returns : goal.returns
returns c = storing_done c.loop-i.invariant.0 (omega (arith, nodes_length c.args.net.now, c.loop-i-test.false))
