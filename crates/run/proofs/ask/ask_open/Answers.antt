-- `ask_open` meets its contract: 7, the table and then the run, 9, the node and then the pattern, and the answer. Assumes nothing.
use mathlib.Core.Path.{sym, ◌∙◌}
use native.Mathlib.Omega.{arith}
use borrow.Author.Tests.{not-true, not-false}
use Rattle.run.proofs.Questions.{asked_table, table_legible, asked_run, asked_node, asked_pattern, asked_done}
use Rattle.run.proofs.ask.ask_open.Goals as goal

pub returns-then-not-sound : goal.returns-then-not-sound
returns-then-not-sound c = asked_table c.args.net.now c.args.letter.now c.args.low.now c.args.high.now c.args.r c.args.n c.args.p c.requires.0 c.requires.1 c.sound.ensures (not-true _ c.if-not-sound.true-raw)

pub run_sound-requires : goal.run_sound-requires
run_sound-requires c = (c.requires.0, table_legible c.args.net.now c.args.letter.now c.args.low.now c.args.high.now c.args.r c.args.n c.args.p c.requires.0 c.requires.1 c.sound.ensures (not-false _ c.if-not-sound.false-raw))

pub returns-then-not-run_sound : goal.returns-then-not-run_sound
returns-then-not-run_sound c = asked_run c.args.net.now c.args.letter.now c.args.low.now c.args.high.now c.args.r c.args.n c.args.p c.requires.0 c.requires.1 c.sound.ensures (not-false _ c.if-not-sound.false-raw) c.run_sound.ensures (not-true _ c.if-not-run_sound.true-raw)

pub returns-then-nodes-n : goal.returns-then-nodes-n
returns-then-nodes-n c = asked_node c.args.net.now c.args.letter.now c.args.low.now c.args.high.now c.args.r c.args.n c.args.p c.requires.0 c.requires.1 c.sound.ensures (not-false _ c.if-not-sound.false-raw) c.run_sound.ensures (not-false _ c.if-not-run_sound.false-raw) (omega (arith, c.if-nodes-n.true))

pub returns-then-not-is_pattern : goal.returns-then-not-is_pattern
returns-then-not-is_pattern c = asked_pattern c.args.net.now c.args.letter.now c.args.low.now c.args.high.now c.args.r c.args.n c.args.p c.requires.0 c.requires.1 c.sound.ensures (not-false _ c.if-not-sound.false-raw) c.run_sound.ensures (not-false _ c.if-not-run_sound.false-raw) (omega arith) (sym c.is_pattern.ensures ∙ not-true _ c.if-not-is_pattern.true-raw)

pub wire_at-requires : goal.wire_at-requires
wire_at-requires c = (c.requires.0, table_legible c.args.net.now c.args.letter.now c.args.low.now c.args.high.now c.args.r c.args.n c.args.p c.requires.0 c.requires.1 c.sound.ensures (not-false _ c.if-not-sound.false-raw), sym c.run_sound.ensures ∙ not-false _ c.if-not-run_sound.false-raw, omega arith)

pub returns : goal.returns
returns c = asked_done c.args.net.now c.args.letter.now c.args.low.now c.args.high.now c.args.r c.args.n c.args.p c.requires.0 c.requires.1 c.sound.ensures (not-false _ c.if-not-sound.false-raw) c.run_sound.ensures (not-false _ c.if-not-run_sound.false-raw) (omega arith) (sym c.is_pattern.ensures ∙ not-false _ c.if-not-is_pattern.false-raw) c.wire_at.ensures
