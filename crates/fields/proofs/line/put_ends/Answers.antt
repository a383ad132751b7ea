-- `put_ends` meets its contract: piece by piece.
use native.Mathlib.Omega.{arith}
use lib.ListN.{length-append}
use Rattle.text.specs.Decimal.{spaced}
use Rattle.text.proofs.Written.{wrote_then, wrote_room}
use Rattle.fields.specs.Line.{channel_ends}
use Rattle.fields.proofs.line.put_ends.Goals as goal

pub put_bytes-word-requires : goal.put_bytes-word-requires
unfolding channel_ends
put_bytes-word-requires c = omega (arith, simp length-append at c.requires)

pub put_spaced-first-requires : goal.put_spaced-first-requires
unfolding channel_ends
put_spaced-first-requires c =
    let w1 = c.put_bytes-word.ensures in
    wrote_room (spaced c.args.t.first) w1 (simp length-append (omega (arith, simp length-append at c.requires)))

pub put_spaced-requires : goal.put_spaced-requires
unfolding channel_ends
put_spaced-requires c =
    let w1 = c.put_bytes-word.ensures in
    let w2 = wrote_then w1 c.put_spaced-first.ensures (omega (arith, c.requires)) in
    wrote_room (spaced c.args.t.second) w2 (simp length-append (omega (arith, simp length-append at c.requires)))

pub returns : goal.returns
unfolding channel_ends
returns c =
    let w1 = c.put_bytes-word.ensures in
    let w2 = wrote_then w1 c.put_spaced-first.ensures (omega (arith, c.requires)) in
    let w3 = wrote_then w2 c.put_spaced.ensures (omega (arith, c.requires)) in
    w3
