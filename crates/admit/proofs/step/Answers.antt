-- `step`: as `start`, from the run and the table, which still stand where there is no room.
use mathlib.Core.Path.{refl, sym, ◌∙◌}
use native.Mathlib.Omega.{arith}
use Rattle.admit.proofs.Whole.{still_legible, still_sound, still_time, still_within, step_crowded, step_legible, step_judgeable, step_reached, step_leasts}
use Rattle.admit.proofs.step.Goals as goal

pub step-next-requires : goal.step-next-requires
step-next-requires c = record { laid = (c.requires.laid.0, c.requires.laid.1, c.requires.laid.2); r_value = (c.requires.r_value.0, c.requires.r_value.1, c.requires.r_value.2) }

pub step_within-requires : goal.step_within-requires
step_within-requires c =
    let n = c.step-next.ensures in (c.requires.laid.0, still_legible c.args.r c.requires.laid.0 c.requires.laid.1 c.requires.r_value.0 n (omega (arith, c.step-next.auto.letter)), still_sound c.args.r c.requires.laid.0 c.requires.laid.1 c.requires.r_value.0 n (omega (arith, c.step-next.auto.letter)), still_time c.args.r c.requires.laid.0 c.requires.laid.1 c.requires.r_value.0 n (omega (arith, c.step-next.auto.letter)) c.requires.r_value.1)

pub shape_of-letter-then-stopped : goal.shape_of-letter-then-stopped
shape_of-letter-then-stopped c = omega (arith, c.step-next.auto.letter)

pub shape_of-low-then-stopped : goal.shape_of-low-then-stopped
shape_of-low-then-stopped c = omega (arith, c.step-next.auto.low)

pub shape_of-high-then-stopped : goal.shape_of-high-then-stopped
shape_of-high-then-stopped c = omega (arith, c.step-next.auto.high)

pub shape_of-index-then-stopped : goal.shape_of-index-then-stopped
shape_of-index-then-stopped c = omega (arith, c.step-next.auto.index)

pub shape_of-wletter-then-stopped : goal.shape_of-wletter-then-stopped
shape_of-wletter-then-stopped c = omega (arith, c.step-next.auto.wletter)

pub shape_of-wlow-then-stopped : goal.shape_of-wlow-then-stopped
shape_of-wlow-then-stopped c = omega (arith, c.step-next.auto.wlow)

pub shape_of-whigh-then-stopped : goal.shape_of-whigh-then-stopped
shape_of-whigh-then-stopped c = omega (arith, c.step-next.auto.whigh)

pub shape_of-windex-then-stopped : goal.shape_of-windex-then-stopped
shape_of-windex-then-stopped c = omega (arith, c.step-next.auto.windex)

pub shape_of-least-then-stopped : goal.shape_of-least-then-stopped
shape_of-least-then-stopped c = omega (arith)

pub returns-then-stopped : goal.returns-then-stopped
returns-then-stopped c = record { reached = step_crowded c.args.r c.requires.laid.0 c.requires.laid.1 c.requires.r_value.0 c.step-next.ensures (omega (arith, c.step-next.auto.letter)) (sym c.stopped.ensures ∙ c.if-stopped.true) (still_within c.args.r c.requires.laid.0 c.requires.laid.1 c.requires.r_value.0 c.step-next.ensures (omega (arith, c.step-next.auto.letter)) c.step_within.ensures) c.crowded.ensures; least_len_unchanged = (refl, tt) }

pub times_only-requires : goal.times_only-requires
times_only-requires c =
    let e = (sym c.stopped.ensures ∙ c.if-stopped.false) in (c.requires.laid.0, step_legible c.args.r c.requires.laid.0 c.requires.laid.1 c.requires.r_value.0 c.step-next.ensures (omega (arith, c.step-next.auto.letter)) e, step_judgeable c.args.r c.requires.laid.0 c.requires.laid.1 c.requires.r_value.0 c.step-next.ensures (omega (arith, c.step-next.auto.letter)) e c.requires.laid.3 c.requires.r_value.2)

pub shape_of-letter : goal.shape_of-letter
shape_of-letter c = omega (arith, c.step-next.auto.letter)

pub shape_of-low : goal.shape_of-low
shape_of-low c = omega (arith, c.step-next.auto.low)

pub shape_of-high : goal.shape_of-high
shape_of-high c = omega (arith, c.step-next.auto.high)

pub shape_of-index : goal.shape_of-index
shape_of-index c = omega (arith, c.step-next.auto.index)

pub shape_of-wletter : goal.shape_of-wletter
shape_of-wletter c = omega (arith, c.step-next.auto.wletter)

pub shape_of-wlow : goal.shape_of-wlow
shape_of-wlow c = omega (arith, c.step-next.auto.wlow)

pub shape_of-whigh : goal.shape_of-whigh
shape_of-whigh c = omega (arith, c.step-next.auto.whigh)

pub shape_of-windex : goal.shape_of-windex
shape_of-windex c = omega (arith, c.step-next.auto.windex)

pub shape_of-least : goal.shape_of-least
shape_of-least c = omega (arith, c.times_only.auto.least)

pub returns : goal.returns
returns c =
    let e = (sym c.stopped.ensures ∙ c.if-stopped.false) in let j = c.times_only.ensures in
    record { reached = step_reached c.args.r c.requires.laid.0 c.requires.laid.1 c.requires.r_value.0 c.step-next.ensures (omega (arith, c.step-next.auto.letter)) e j c.judged.ensures; least_len_unchanged = (j.long, step_leasts c.args.r c.requires.laid.0 c.requires.laid.1 c.requires.r_value.0 c.step-next.ensures (omega (arith, c.step-next.auto.letter)) e j c.judged.ensures) }
