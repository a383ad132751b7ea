-- `start_task` meets its contract. Assumes nothing.
use mathlib.Core.Path.{refl, ◌∙◌}
use borrow.Author.Tests.{not-true, not-false}
use Rattle.refusal.specs.declared.Refusal.TheVariants.{Unsound}
use Rattle.diagram.specs.Call.{columns}
use Rattle.functions.proofs.Carry.{judged_open}
use Rattle.advance.proofs.Ends.{went_refused, went_closed, start_unsound, start_next}
use Rattle.advance.proofs.start_task.Goals as goal

pub shape_of-letter-then-not-sound : goal.shape_of-letter-then-not-sound
shape_of-letter-then-not-sound c = refl

pub shape_of-low-then-not-sound : goal.shape_of-low-then-not-sound
shape_of-low-then-not-sound c = refl

pub shape_of-high-then-not-sound : goal.shape_of-high-then-not-sound
shape_of-high-then-not-sound c = refl

pub shape_of-index-then-not-sound : goal.shape_of-index-then-not-sound
shape_of-index-then-not-sound c = c.sound.auto.index

pub returns-then-not-sound : goal.returns-then-not-sound
returns-then-not-sound c = went_refused Unsound (start_unsound c.args.net.now c.args.letter.now c.args.low.now c.args.high.now (columns c.args.wletter.now c.args.wlow.now c.args.whigh.now) c.requires.laid.1 c.requires.laid.2 c.sound.ensures (not-true _ c.if-not-sound.true-raw))

pub start-next-requires : goal.start-next-requires
start-next-requires c = (c.requires.laid.0, judged_open c.sound.ensures (not-false _ c.if-not-sound.false-raw) c.requires.laid.0.within.letters, c.requires.sized.2)

pub shape_of-letter : goal.shape_of-letter
shape_of-letter c = c.closed.auto.letter ∙ c.start-next.auto.letter

pub shape_of-low : goal.shape_of-low
shape_of-low c = c.closed.auto.low ∙ c.start-next.auto.low

pub shape_of-high : goal.shape_of-high
shape_of-high c = c.closed.auto.high ∙ c.start-next.auto.high

pub shape_of-index : goal.shape_of-index
shape_of-index c = c.start-next.auto.index ∙ c.sound.auto.index

pub shape_of-wletter : goal.shape_of-wletter
shape_of-wletter c = c.start-next.auto.wletter

pub shape_of-wlow : goal.shape_of-wlow
shape_of-wlow c = c.start-next.auto.wlow

pub shape_of-whigh : goal.shape_of-whigh
shape_of-whigh c = c.start-next.auto.whigh

pub shape_of-windex : goal.shape_of-windex
shape_of-windex c = c.start-next.auto.windex

pub returns : goal.returns
returns c =
    let j = c.sound.ensures in
    let e = not-false _ c.if-not-sound.false-raw in
    went_closed (judged_open j e c.requires.laid.0.within.letters).holds c.start-next.auto.letter
    (start_next c.args.net.now c.args.letter.now c.args.low.now c.args.high.now (columns c.args.wletter.now c.args.wlow.now c.args.whigh.now) c.requires.laid.1 c.requires.laid.2 j e)
    c.start-next.ensures
    c.closed.ensures
