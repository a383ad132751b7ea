-- `opened` meets its contract. Assumes nothing.
use mathlib.Core.Path.{sym, ◌∙◌}
use borrow.Author.Tests.{not-true, not-false}
use Rattle.calls.proofs.Answers.{judged_passed, opened_unsound, opened_question, opened_done}
use Rattle.calls.proofs.opening.opened.Goals as goal

pub sound-requires : goal.sound-requires
sound-requires c = c.requires

pub shape_of-index-then-not-sound : goal.shape_of-index-then-not-sound
shape_of-index-then-not-sound c = c.sound.auto.index

pub returns-then-not-sound : goal.returns-then-not-sound
returns-then-not-sound c = opened_unsound c.args.call c.requires.0 c.sound.ensures (not-true c.sound.result c.if-not-sound.true-raw)

pub asked-requires : goal.asked-requires
asked-requires c = judged_passed c.requires.0 c.sound.ensures (not-false c.sound.result c.if-not-sound.false-raw)

pub shape_of-index-then-not-asked : goal.shape_of-index-then-not-asked
shape_of-index-then-not-asked c = c.sound.auto.index

pub returns-then-not-asked : goal.returns-then-not-asked
returns-then-not-asked c = opened_question c.args.call c.requires.0 c.sound.ensures (not-false c.sound.result c.if-not-sound.false-raw) (sym c.asked.ensures ∙ not-true c.asked.result c.if-not-asked.true-raw)

pub shape_of-index : goal.shape_of-index
shape_of-index c = c.sound.auto.index

pub returns : goal.returns
returns c = opened_done c.args.call c.requires.0 c.sound.ensures (not-false c.sound.result c.if-not-sound.false-raw) (sym c.asked.ensures ∙ not-false c.asked.result c.if-not-asked.false-raw)
