-- `put_time` meets its contract: piece by piece.
use native.Mathlib.Omega.{arith}
use lib.ListN.{length-append}
use Rattle.text.specs.Decimal.{decimal}
use Rattle.text.proofs.Written.{wrote_then, wrote_room}
use Rattle.fields.specs.Words.{at_word}
use Rattle.fields.specs.Line.{entry_time}
use Rattle.fields.proofs.line.put_time.Goals as goal

pub put_bytes-word-requires : goal.put_bytes-word-requires
unfolding entry_time
put_bytes-word-requires c = omega (arith, simp length-append at c.requires)

pub put_decimal_u64-time-requires : goal.put_decimal_u64-time-requires
unfolding entry_time
put_decimal_u64-time-requires c =
    let w1 = c.put_bytes-word.ensures in
    wrote_room (decimal c.args.e.time.0) w1 (omega (arith, simp length-append at c.requires))

pub put_bytes-requires : goal.put_bytes-requires
unfolding entry_time
put_bytes-requires c =
    let w1 = c.put_bytes-word.ensures in
    let w2 = wrote_then w1 c.put_decimal_u64-time.ensures (omega (arith, c.requires)) in
    wrote_room (at_word) w2 (simp length-append (omega (arith, simp length-append at c.requires)))

pub returns : goal.returns
unfolding entry_time
returns c =
    let w1 = c.put_bytes-word.ensures in
    let w2 = wrote_then w1 c.put_decimal_u64-time.ensures (omega (arith, c.requires)) in
    let w3 = wrote_then w2 c.put_bytes.ensures (omega (arith, c.requires)) in
    w3
