-- `put` of Transistor meets its contract: piece by piece.
use mathlib.Core.Path.{◌∙◌}
use native.Mathlib.Omega.{arith}
use lib.ListN.{length-append}
use borrow.Author.Rules.{rules}
use Rattle.text.specs.Decimal.{spaced}
use Rattle.text.proofs.Written.{wrote_then, wrote_room}
use Rattle.fields.specs.Words.{ohm_word}
use Rattle.fields.specs.Line.{polarity_word, channel_ends, transistor_line}
use Rattle.fields.proofs.Short.{transistor_short}
use Rattle.fields.proofs.line.TransistorLine.put.Goals as goal

pub put_bytes-word-requires : goal.put_bytes-word-requires
unfolding transistor_line
put_bytes-word-requires c = omega (arith, c.requires, simp length-append at (transistor_short c.args.number c.args.self (search rules) (search rules) (search rules) (search rules) (search rules)))

pub put_spaced-own-requires : goal.put_spaced-own-requires
unfolding transistor_line
put_spaced-own-requires c =
    let w1 = c.put_bytes-word.ensures in
    wrote_room (spaced c.args.number) w1 (simp length-append (omega (arith, c.requires, simp length-append at (transistor_short c.args.number c.args.self (search rules) (search rules) (search rules) (search rules) (search rules)))))

pub put_either-polarity-requires : goal.put_either-polarity-requires
unfolding transistor_line
put_either-polarity-requires c =
    let w1 = c.put_bytes-word.ensures in
    let w2 = wrote_then w1 c.put_spaced-own.ensures (omega (arith, c.requires)) in
    wrote_room (polarity_word c.args.self.polarity) w2 (simp length-append (omega (arith, c.requires, simp length-append at (transistor_short c.args.number c.args.self (search rules) (search rules) (search rules) (search rules) (search rules)))))

pub put_spaced-gate-requires : goal.put_spaced-gate-requires
unfolding transistor_line
put_spaced-gate-requires c =
    let w1 = c.put_bytes-word.ensures in
    let w2 = wrote_then w1 c.put_spaced-own.ensures (omega (arith, c.requires)) in
    let w3 = wrote_then w2 c.put_either-polarity.ensures (omega (arith, c.requires)) in
    wrote_room (spaced c.args.self.gate) w3 (simp length-append (omega (arith, c.requires, simp length-append at (transistor_short c.args.number c.args.self (search rules) (search rules) (search rules) (search rules) (search rules)))))

pub put_ends-ends-requires : goal.put_ends-ends-requires
unfolding transistor_line
put_ends-ends-requires c =
    let w1 = c.put_bytes-word.ensures in
    let w2 = wrote_then w1 c.put_spaced-own.ensures (omega (arith, c.requires)) in
    let w3 = wrote_then w2 c.put_either-polarity.ensures (omega (arith, c.requires)) in
    let w4 = wrote_then w3 c.put_spaced-gate.ensures (omega (arith, c.requires)) in
    wrote_room (channel_ends c.args.self) w4 (simp length-append (omega (arith, c.requires, simp length-append at (transistor_short c.args.number c.args.self (search rules) (search rules) (search rules) (search rules) (search rules)))))

pub put_spaced-resistance-requires : goal.put_spaced-resistance-requires
unfolding transistor_line
put_spaced-resistance-requires c =
    let w1 = c.put_bytes-word.ensures in
    let w2 = wrote_then w1 c.put_spaced-own.ensures (omega (arith, c.requires)) in
    let w3 = wrote_then w2 c.put_either-polarity.ensures (omega (arith, c.requires)) in
    let w4 = wrote_then w3 c.put_spaced-gate.ensures (omega (arith, c.requires)) in
    let w5 = wrote_then w4 c.put_ends-ends.ensures (omega (arith, c.requires)) in
    wrote_room (spaced c.args.self.resistance.0) w5 (simp length-append (omega (arith, c.requires, simp length-append at (transistor_short c.args.number c.args.self (search rules) (search rules) (search rules) (search rules) (search rules)))))

pub put_bytes-requires : goal.put_bytes-requires
unfolding transistor_line
put_bytes-requires c =
    let w1 = c.put_bytes-word.ensures in
    let w2 = wrote_then w1 c.put_spaced-own.ensures (omega (arith, c.requires)) in
    let w3 = wrote_then w2 c.put_either-polarity.ensures (omega (arith, c.requires)) in
    let w4 = wrote_then w3 c.put_spaced-gate.ensures (omega (arith, c.requires)) in
    let w5 = wrote_then w4 c.put_ends-ends.ensures (omega (arith, c.requires)) in
    let w6 = wrote_then w5 c.put_spaced-resistance.ensures (omega (arith, c.requires)) in
    wrote_room (ohm_word) w6 (simp length-append (omega (arith, c.requires, simp length-append at (transistor_short c.args.number c.args.self (search rules) (search rules) (search rules) (search rules) (search rules)))))

pub shape_of-out : goal.shape_of-out
shape_of-out c =
    c.put_bytes.auto.out
    ∙ c.put_spaced-resistance.auto.out
    ∙ c.put_ends-ends.auto.out
    ∙ c.put_spaced-gate.auto.out
    ∙ c.put_either-polarity.auto.out
    ∙ c.put_spaced-own.auto.out
    ∙ c.put_bytes-word.auto.out

pub returns : goal.returns
unfolding transistor_line
returns c =
    let w1 = c.put_bytes-word.ensures in
    let w2 = wrote_then w1 c.put_spaced-own.ensures (omega (arith, c.requires)) in
    let w3 = wrote_then w2 c.put_either-polarity.ensures (omega (arith, c.requires)) in
    let w4 = wrote_then w3 c.put_spaced-gate.ensures (omega (arith, c.requires)) in
    let w5 = wrote_then w4 c.put_ends-ends.ensures (omega (arith, c.requires)) in
    let w6 = wrote_then w5 c.put_spaced-resistance.ensures (omega (arith, c.requires)) in
    let w7 = wrote_then w6 c.put_bytes.ensures (omega (arith, c.requires)) in
    record { wrote = w7; short = transistor_short c.args.number c.args.self (search rules) (search rules) (search rules) (search rules) (search rules) }
