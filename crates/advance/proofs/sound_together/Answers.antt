-- `sound_together` meets its contract: the table is judged first, then the run with it. Assumes nothing.
use borrow.Author.Tests.{not-true, not-false}
use Rattle.functions.proofs.Carry.{judged_open}
use Rattle.advance.proofs.Ends.{together_table, together_run}
use Rattle.advance.proofs.sound_together.Goals as goal

pub returns-then-not-sound : goal.returns-then-not-sound
returns-then-not-sound c = together_table c.requires.0 c.sound.ensures (not-true _ c.if-not-sound.true-raw)

pub run_sound-requires : goal.run_sound-requires
run_sound-requires c = (c.requires.0, (judged_open c.sound.ensures (not-false _ c.if-not-sound.false-raw) c.requires.0.within.letters).legible)

pub returns : goal.returns
returns c = together_run c.requires.0 c.sound.ensures (not-false _ c.if-not-sound.false-raw) c.run_sound.result c.run_sound.ensures
