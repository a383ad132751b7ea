-- `put` of Entry meets its contract: piece by piece.
use native.Mathlib.Omega.{arith}
use lib.ListN.{length-append}
use borrow.Author.Rules.{rules}
use Rattle.text.specs.Decimal.{spaced}
use Rattle.text.proofs.Written.{wrote_then, wrote_room}
use Rattle.fields.specs.Words.{becomes_word}
use Rattle.fields.specs.Line.{entry_time, source_end, entry_line}
use Rattle.fields.proofs.Short.{entry_short}
use Rattle.fields.proofs.line.EntryLine.put.Goals as goal

pub put_bytes-word-requires : goal.put_bytes-word-requires
unfolding entry_line
put_bytes-word-requires c = omega (arith, c.requires, simp length-append at (entry_short c.args.number c.args.self (search rules) (search rules) (search rules) (search rules)))

pub put_spaced-own-requires : goal.put_spaced-own-requires
unfolding entry_line
put_spaced-own-requires c =
    let w1 = c.put_bytes-word.ensures in
    wrote_room (spaced c.args.number) w1 (simp length-append (omega (arith, c.requires, simp length-append at (entry_short c.args.number c.args.self (search rules) (search rules) (search rules) (search rules)))))

pub put_time-time-requires : goal.put_time-time-requires
unfolding entry_line
put_time-time-requires c =
    let w1 = c.put_bytes-word.ensures in
    let w2 = wrote_then w1 c.put_spaced-own.ensures (omega (arith, c.requires)) in
    wrote_room (entry_time c.args.self) w2 (simp length-append (omega (arith, c.requires, simp length-append at (entry_short c.args.number c.args.self (search rules) (search rules) (search rules) (search rules)))))

pub put_spaced-input-requires : goal.put_spaced-input-requires
unfolding entry_line
put_spaced-input-requires c =
    let w1 = c.put_bytes-word.ensures in
    let w2 = wrote_then w1 c.put_spaced-own.ensures (omega (arith, c.requires)) in
    let w3 = wrote_then w2 c.put_time-time.ensures (omega (arith, c.requires)) in
    wrote_room (spaced c.args.self.input) w3 (simp length-append (omega (arith, c.requires, simp length-append at (entry_short c.args.number c.args.self (search rules) (search rules) (search rules) (search rules)))))

pub put_bytes-becomes-requires : goal.put_bytes-becomes-requires
unfolding entry_line
put_bytes-becomes-requires c =
    let w1 = c.put_bytes-word.ensures in
    let w2 = wrote_then w1 c.put_spaced-own.ensures (omega (arith, c.requires)) in
    let w3 = wrote_then w2 c.put_time-time.ensures (omega (arith, c.requires)) in
    let w4 = wrote_then w3 c.put_spaced-input.ensures (omega (arith, c.requires)) in
    wrote_room (becomes_word) w4 (simp length-append (omega (arith, c.requires, simp length-append at (entry_short c.args.number c.args.self (search rules) (search rules) (search rules) (search rules)))))

pub put_source-requires : goal.put_source-requires
unfolding entry_line
put_source-requires c =
    let w1 = c.put_bytes-word.ensures in
    let w2 = wrote_then w1 c.put_spaced-own.ensures (omega (arith, c.requires)) in
    let w3 = wrote_then w2 c.put_time-time.ensures (omega (arith, c.requires)) in
    let w4 = wrote_then w3 c.put_spaced-input.ensures (omega (arith, c.requires)) in
    let w5 = wrote_then w4 c.put_bytes-becomes.ensures (omega (arith, c.requires)) in
    wrote_room (source_end c.args.self.source) w5 (simp length-append (omega (arith, c.requires, simp length-append at (entry_short c.args.number c.args.self (search rules) (search rules) (search rules) (search rules)))))

pub returns : goal.returns
unfolding entry_line
returns c =
    let w1 = c.put_bytes-word.ensures in
    let w2 = wrote_then w1 c.put_spaced-own.ensures (omega (arith, c.requires)) in
    let w3 = wrote_then w2 c.put_time-time.ensures (omega (arith, c.requires)) in
    let w4 = wrote_then w3 c.put_spaced-input.ensures (omega (arith, c.requires)) in
    let w5 = wrote_then w4 c.put_bytes-becomes.ensures (omega (arith, c.requires)) in
    let w6 = wrote_then w5 c.put_source.ensures (omega (arith, c.requires)) in
    record { wrote = w6; short = entry_short c.args.number c.args.self (search rules) (search rules) (search rules) (search rules) }
