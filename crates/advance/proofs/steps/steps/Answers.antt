use Rattle.std.proofs.Common.{◌≡◌, Err, rules}
use mathlib.Core.Path.{refl, sym, ◌∙◌}
use Prim.Native.Nat.{ℕ}
use native.Mathlib.Nat.{le_refl}
use native.Mathlib.Omega.{arith}
use lib.ListN.{length, replicate, length-replicate}
use Rattle.table.proofs.Entering.{lent_again}
use Rattle.record.proofs.Leasts.{leasts_none}
use Rattle.advance.proofs.Moving.{open_room, tidy_standing, tidy_whole, tidy_reached, going_start, going_takes, going_rests, going_refused, going_next, step_standing, going_taken, step_later}
use Rattle.advance.proofs.steps.steps.Goals as goal

pub tidy-now-requires : goal.tidy-now-requires
tidy-now-requires c = c.requires.laid.0

pub time_after-time-requires : goal.time_after-time-requires
time_after-time-requires c =
    let t = tidy_standing (record { opened = c.requires.laid.1; sound = c.requires.r_value }) c.tidy-now.ensures in
    record { laid = (c.requires.laid.0, t.opened.legible, t.sound); done_le_used = (omega arith, open_room t.opened (replicate 65536 0) (length-replicate {A = ℕ} 65536 0), leasts_none _ _ _) }

pub loop-time-init : goal.loop-time-init
loop-time-init c = (going_start c.args.until (tidy_standing (record { opened = c.requires.laid.1; sound = c.requires.r_value }) c.tidy-now.ensures) (tidy_whole (record { opened = c.requires.laid.1; sound = c.requires.r_value }) c.tidy-now.ensures) (record { time_is = c.time_after-time.ensures.0; least_long = c.time_after-time.ensures.1 ∙ length-replicate {A = ℕ} 65536 0; leasts = c.time_after-time.ensures.2 }), c.requires.laid.2, refl, refl, refl, refl, refl, refl, refl, refl)

pub slice_bounds-step-end : goal.slice_bounds-step-end
slice_bounds-step-end c = sym c.loop-time.invariant.0.timed.least_long

pub step-requires : goal.step-requires
step-requires c =
    let g = c.loop-time.invariant in
    record { laid = (c.requires.laid.0, g.0.standing.opened, g.1, omega (arith, g.0.standing.opened.holds.ready.sized.most, g.0.timed.least_long)); r_value = (g.0.standing.sound, g.0.timed.time_is, g.0.timed.leasts) }

pub returns-in_err-after : goal.returns-in_err-after
returns-in_err-after c =
    let g = c.loop-time.invariant.0 in
    let e : c.from_residual.result ≡ Err c.in_err-after.field-0.0 = search rules in
    rw e (tidy_reached (record { opened = c.requires.laid.1; sound = c.requires.r_value }) c.tidy-now.ensures c.args.until (length c.args.letter.now) (going_refused c.requires.laid.0 g (going_takes c.requires.laid.0 g c.loop-time-test.true) c.step.auto.letter c.in_err-after.ensures.reached))

pub slice_bounds-time_after-end-in-loop-time : goal.slice_bounds-time_after-end-in-loop-time
slice_bounds-time_after-end-in-loop-time c = sym (c.in_ok-after.ensures.least_len_unchanged.0 ∙ c.loop-time.invariant.0.timed.least_long)

pub time_after-time-requires-in-loop-time : goal.time_after-time-requires-in-loop-time
time_after-time-requires-in-loop-time c =
    let g = c.loop-time.invariant.0 in
    let takes = going_takes c.requires.laid.0 g c.loop-time-test.true in
    let t = step_standing c.requires.laid.0 g.standing (going_taken c.requires.laid.0 g takes c.step.auto.letter c.in_ok-after.ensures.reached) takes.more in
    record { laid = (c.requires.laid.0, t.opened.legible, t.sound); done_le_used = (le_refl _, omega (arith, t.opened.holds.ready.fits, t.opened.holds.ready.sized.most, c.in_ok-after.ensures.least_len_unchanged.0, g.timed.least_long), c.in_ok-after.ensures.least_len_unchanged.1) }

pub loop-time-smaller : goal.loop-time-smaller
loop-time-smaller c =
    let g = c.loop-time.invariant.0 in
    let takes = going_takes c.requires.laid.0 g c.loop-time-test.true in
    omega (arith, step_later c.requires.laid.0 g.standing (going_taken c.requires.laid.0 g takes c.step.auto.letter c.in_ok-after.ensures.reached) takes.more)

pub loop-time-preserved : goal.loop-time-preserved
loop-time-preserved c =
    let v = c.loop-time.invariant in
    let k = c.step.auto in
    (going_next c.requires.laid.0 v.0 (going_takes c.requires.laid.0 v.0 c.loop-time-test.true) k.letter c.in_ok-after.ensures.reached (record { time_is = c.time_after-time-in-loop-time.ensures.0; least_long = c.time_after-time-in-loop-time.ensures.1 ∙ c.in_ok-after.ensures.least_len_unchanged.0 ∙ v.0.timed.least_long; leasts = c.time_after-time-in-loop-time.ensures.2 }), lent_again v.1 k.wletter k.wlow k.whigh k.windex, k.letter ∙ v.2, k.low ∙ v.3, k.high ∙ v.4, k.index ∙ v.5, k.wletter ∙ v.6, k.wlow ∙ v.7, k.whigh ∙ v.8, k.windex ∙ v.9)

pub shape_of-letter : goal.shape_of-letter
shape_of-letter c = c.loop-time.invariant.2

pub shape_of-low : goal.shape_of-low
shape_of-low c = c.loop-time.invariant.3

pub shape_of-high : goal.shape_of-high
shape_of-high c = c.loop-time.invariant.4

pub shape_of-index : goal.shape_of-index
shape_of-index c = c.loop-time.invariant.5

pub shape_of-wletter : goal.shape_of-wletter
shape_of-wletter c = c.loop-time.invariant.6

pub shape_of-wlow : goal.shape_of-wlow
shape_of-wlow c = c.loop-time.invariant.7

pub shape_of-whigh : goal.shape_of-whigh
shape_of-whigh c = c.loop-time.invariant.8

pub shape_of-windex : goal.shape_of-windex
shape_of-windex c = c.loop-time.invariant.9

pub returns : goal.returns
returns c = tidy_reached (record { opened = c.requires.laid.1; sound = c.requires.r_value }) c.tidy-now.ensures c.args.until (length c.args.letter.now) (going_rests c.requires.laid.0 c.loop-time.invariant.0 c.loop-time-test.false)
