use mathlib.Core.Path.{◌≡◌, sym, ◌∙◌}
use Prim.Native.Nat.{◌+◌, ◌-◌, ◌<◌}
use native.Mathlib.Omega.{arith}
use lib.ListN.{get_or}
use Rattle.net.specs.Net.{at, net_circuit}
use Rattle.plain.specs.Pattern.{of_nodes}
use Rattle.plain.proofs.Soonest.{soonest_past, soonest_more, changes_length, changes_at}
use Rattle.plain.proofs.time.soonest_change.Goals as goal

pub loop-n-init : goal.loop-n-init
loop-n-init c =
    let count : at c.args.net.now 0 ≡ 2 + at c.args.net.now 0 - 2 = omega arith in
    (omega arith, sym (soonest_past c.args.present (of_nodes (net_circuit c.args.net.now) c.args.changes.now) (2 + at c.args.net.now 0 - 2) (changes_length c.args.net.now c.requires.0 c.args.changes.now c.requires.1 ∙ count)))

pub loop-n-preserved : goal.loop-n-preserved
loop-n-preserved c =
    let l = c.loop-n in
    let net = c.args.net.now in
    let changes = c.args.changes.now in
    let long = changes_length net c.requires.0 changes c.requires.1 in
    let some : 2 < l.n = c.loop-n-test.true in (
      omega arith,
      soonest_more c.args.present (of_nodes (net_circuit net) changes) (l.n - 1 - 2) (l.n - 2) (get_or changes (l.n - 1) 0) l.first c.sooner-first.result (omega arith) (omega (arith, long, l.auto.n))
          (changes_at net c.requires.0 changes c.requires.1 (l.n - 1) (omega arith) (omega (arith, l.auto.n))) l.invariant.1 c.sooner-first.ensures,
    )

pub returns : goal.returns
returns c =
    let l = c.loop-n in
    let done : l.n ≡ 2 = omega (arith, l.invariant.0, c.loop-n-test.false) in
    rw done at l.invariant.1
