use mathlib.Core.Path.{◌≡◌, sym, ◌∙◌, ap}
use Prim.Native.Nat.{◌+◌, ◌-◌, ◌<◌}
use native.Mathlib.Omega.{arith}
use Rattle.units.specs.declared.Picoseconds.{Picoseconds}
use Rattle.net.specs.Net.{time_place, at}
use Rattle.plain.proofs.Soonest.{soonest_past, soonest_more, times_length, times_at}
use Rattle.plain.proofs.time.soonest_entry.Invariants.{times}
use Rattle.plain.proofs.time.soonest_entry.Goals as goal

pub loop-i-init : goal.loop-i-init
loop-i-init c = sym (soonest_past c.args.present (times c.args.net.now) (at c.args.net.now 2) (times_length c.args.net.now))

pub loop-i-preserved : goal.loop-i-preserved
loop-i-preserved c =
    let l = c.loop-i in
    let net = c.args.net.now in
    let some : 0 < l.i = c.loop-i-test.true in
    let read : c.entry_time-at.result.0 ≡ at net (time_place + (l.i - 1)) = ap (λ (t : Picoseconds). t.0) c.entry_time-at.ensures.0 in
    soonest_more c.args.present (times net) (l.i - 1) l.i c.entry_time-at.result.0 l.first c.sooner-first.result (omega arith) (omega (arith, times_length net, l.auto.i))
    (read ∙ times_at net (l.i - 1) (omega (arith, l.auto.i))) l.invariant c.sooner-first.ensures
