-- `run_task` meets its contract. Assumes nothing.
use mathlib.Core.Path.{refl, ◌∙◌}
use borrow.Author.Tests.{not-true, not-false}
use Rattle.refusal.specs.declared.Refusal.TheVariants.{Unsound}
use Rattle.diagram.specs.Call.{columns}
use Rattle.advance.proofs.Ends.{went_refused, went_closed, together_sound, run_unsound, run_next}
use Rattle.advance.proofs.run_task.Goals as goal

pub shape_of-letter-then-not-sound_together : goal.shape_of-letter-then-not-sound_together
shape_of-letter-then-not-sound_together c = refl

pub shape_of-low-then-not-sound_together : goal.shape_of-low-then-not-sound_together
shape_of-low-then-not-sound_together c = refl

pub shape_of-high-then-not-sound_together : goal.shape_of-high-then-not-sound_together
shape_of-high-then-not-sound_together c = refl

pub shape_of-index-then-not-sound_together : goal.shape_of-index-then-not-sound_together
shape_of-index-then-not-sound_together c = c.sound_together.auto.index

pub returns-then-not-sound_together : goal.returns-then-not-sound_together
returns-then-not-sound_together c = went_refused Unsound (run_unsound c.args.net.now c.args.letter.now c.args.low.now c.args.high.now c.args.r (columns c.args.wletter.now c.args.wlow.now c.args.whigh.now) c.requires.laid.1 c.requires.laid.2 c.sound_together.ensures c.args.until (not-true _ c.if-not-sound_together.true-raw))

pub steps-next-requires : goal.steps-next-requires
steps-next-requires c =
    let t = c.sound_together.ensures in
    let e = not-false _ c.if-not-sound_together.false-raw in
    record { laid = (c.requires.laid.0, t.opened e, c.requires.sized.2); r_value = together_sound t e }

pub shape_of-letter : goal.shape_of-letter
shape_of-letter c = c.closed.auto.letter ∙ c.steps-next.auto.letter

pub shape_of-low : goal.shape_of-low
shape_of-low c = c.closed.auto.low ∙ c.steps-next.auto.low

pub shape_of-high : goal.shape_of-high
shape_of-high c = c.closed.auto.high ∙ c.steps-next.auto.high

pub shape_of-index : goal.shape_of-index
shape_of-index c = c.steps-next.auto.index ∙ c.sound_together.auto.index

pub shape_of-wletter : goal.shape_of-wletter
shape_of-wletter c = c.steps-next.auto.wletter

pub shape_of-wlow : goal.shape_of-wlow
shape_of-wlow c = c.steps-next.auto.wlow

pub shape_of-whigh : goal.shape_of-whigh
shape_of-whigh c = c.steps-next.auto.whigh

pub shape_of-windex : goal.shape_of-windex
shape_of-windex c = c.steps-next.auto.windex

pub returns : goal.returns
returns c =
    let t = c.sound_together.ensures in
    let e = not-false _ c.if-not-sound_together.false-raw in
    went_closed (t.opened e).holds c.steps-next.auto.letter (run_next c.args.net.now c.args.letter.now c.args.low.now c.args.high.now c.args.r (columns c.args.wletter.now c.args.wlow.now c.args.whigh.now) c.requires.laid.1 c.requires.laid.2 t c.args.until e) c.steps-next.ensures c.closed.ensures
