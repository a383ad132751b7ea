-- `step_task` meets its contract. Assumes nothing.
use mathlib.Core.Path.{refl, sym, ◌∙◌}
use borrow.Author.Tests.{not-true, not-false}
use Prim.Native.Nat.{ℕ}
use native.Mathlib.Omega.{arith}
use lib.ListN.{replicate, length-replicate}
use Rattle.refusal.specs.declared.Refusal.TheVariants.{Unsound, Finished}
use Rattle.diagram.specs.Call.{columns}
use Rattle.record.proofs.Leasts.{leasts_none}
use Rattle.advance.proofs.Ends.{went_refused, went_closed, together_sound, step_unsound, step_finished, step_next}
use Rattle.advance.proofs.Moving.{open_room}
use Rattle.advance.proofs.step_task.Goals as goal

pub shape_of-letter-then-not-sound_together : goal.shape_of-letter-then-not-sound_together
shape_of-letter-then-not-sound_together c = refl

pub shape_of-low-then-not-sound_together : goal.shape_of-low-then-not-sound_together
shape_of-low-then-not-sound_together c = refl

pub shape_of-high-then-not-sound_together : goal.shape_of-high-then-not-sound_together
shape_of-high-then-not-sound_together c = refl

pub shape_of-index-then-not-sound_together : goal.shape_of-index-then-not-sound_together
shape_of-index-then-not-sound_together c = c.sound_together.auto.index

pub returns-then-not-sound_together : goal.returns-then-not-sound_together
returns-then-not-sound_together c = went_refused Unsound (step_unsound c.args.net.now c.args.letter.now c.args.low.now c.args.high.now c.args.r (columns c.args.wletter.now c.args.wlow.now c.args.whigh.now) c.requires.laid.1 c.requires.laid.2 c.sound_together.ensures (not-true _ c.if-not-sound_together.true-raw))

pub time_after-time-requires : goal.time_after-time-requires
time_after-time-requires c =
    let t = c.sound_together.ensures in
    let e = not-false _ c.if-not-sound_together.false-raw in
    record { laid = (c.requires.laid.0, (t.opened e).legible, together_sound t e); done_le_used = (omega arith, open_room (t.opened e) (replicate 65536 0) (length-replicate {A = ℕ} 65536 0), leasts_none _ _ _) }

pub shape_of-letter-then-time : goal.shape_of-letter-then-time
shape_of-letter-then-time c = refl

pub shape_of-low-then-time : goal.shape_of-low-then-time
shape_of-low-then-time c = refl

pub shape_of-high-then-time : goal.shape_of-high-then-time
shape_of-high-then-time c = refl

pub shape_of-index-then-time : goal.shape_of-index-then-time
shape_of-index-then-time c = c.sound_together.auto.index

pub returns-then-time : goal.returns-then-time
returns-then-time c = went_refused Finished (step_finished c.args.net.now c.args.letter.now c.args.low.now c.args.high.now c.args.r (columns c.args.wletter.now c.args.wlow.now c.args.whigh.now) c.requires.laid.1 c.requires.laid.2 c.sound_together.ensures (not-false _ c.if-not-sound_together.false-raw) (sym c.time_after-time.ensures.0 ∙ c.if-time.true))

pub step-next-requires : goal.step-next-requires
step-next-requires c =
    let t = c.sound_together.ensures in
    let e = not-false _ c.if-not-sound_together.false-raw in
    record { laid = (c.requires.laid.0, t.opened e, c.requires.sized.2, omega (arith, (t.opened e).holds.ready.sized.most, c.time_after-time.ensures.1, length-replicate {A = ℕ} 65536 0)); r_value = (together_sound t e, c.time_after-time.ensures.0, c.time_after-time.ensures.2) }

pub shape_of-letter : goal.shape_of-letter
shape_of-letter c = c.closed.auto.letter ∙ c.step-next.auto.letter

pub shape_of-low : goal.shape_of-low
shape_of-low c = c.closed.auto.low ∙ c.step-next.auto.low

pub shape_of-high : goal.shape_of-high
shape_of-high c = c.closed.auto.high ∙ c.step-next.auto.high

pub shape_of-index : goal.shape_of-index
shape_of-index c = c.step-next.auto.index ∙ c.sound_together.auto.index

pub shape_of-wletter : goal.shape_of-wletter
shape_of-wletter c = c.step-next.auto.wletter

pub shape_of-wlow : goal.shape_of-wlow
shape_of-wlow c = c.step-next.auto.wlow

pub shape_of-whigh : goal.shape_of-whigh
shape_of-whigh c = c.step-next.auto.whigh

pub shape_of-windex : goal.shape_of-windex
shape_of-windex c = c.step-next.auto.windex

pub returns : goal.returns
returns c =
    let t = c.sound_together.ensures in
    let e = not-false _ c.if-not-sound_together.false-raw in
    went_closed (t.opened e).holds c.step-next.auto.letter (step_next c.args.net.now c.args.letter.now c.args.low.now c.args.high.now c.args.r (columns c.args.wletter.now c.args.wlow.now c.args.whigh.now) c.requires.laid.1 c.requires.laid.2 t e (λ z. c.if-time.false (c.time_after-time.ensures.0 ∙ z))) c.step-next.ensures.reached c.closed.ensures
