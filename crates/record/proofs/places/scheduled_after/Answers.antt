use mathlib.Core.Path.{sym, ◌∙◌, ap}
use native.Mathlib.Omega.{arith}
use Rattle.units.specs.declared.Picoseconds.{Picoseconds}
use Rattle.record.specs.Numbers.{after_now}
use Rattle.record.proofs.LeastBelow.{least_none, least_loop, least_ends}
use Rattle.record.proofs.places.scheduled_after.Goals as goal

pub loop-i-init : goal.loop-i-init
loop-i-init c = sym (least_none _)

pub entry_time-requires : goal.entry_time-requires
entry_time-requires c = (c.requires, c.loop-i-test.true)

pub loop-i-preserved : goal.loop-i-preserved
loop-i-preserved c =
    let now = c.args.present in
    least_loop _ _ c.loop-i.invariant
    (c.after_now.ensures ∙ ap (λ (t : Picoseconds). after_now now t.0) c.entry_time.ensures.0) c.least-earliest.ensures

pub returns : goal.returns
returns c = least_ends _ _ c.loop-i.i (omega arith) c.loop-i.invariant
