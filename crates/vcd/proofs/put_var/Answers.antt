-- `put_var` meets its contract. Piece by piece.
use native.Mathlib.Omega.{arith}
use lib.ListN.{length-append}
use Rattle.text.specs.Decimal.{decimal}
use Rattle.text.proofs.Written.{wrote_then, wrote_room}
use mathlib.Core.List.{◌∷◌}
use Rattle.vcd.specs.Words.{name_word, end_word}
use Rattle.vcd.specs.Lines.{identifier, var_line}
use Rattle.vcd.proofs.put_var.Goals as goal

pub put_bytes-word-requires : goal.put_bytes-word-requires
unfolding var_line
put_bytes-word-requires c = omega (arith, simp length-append at c.requires.1)

pub put_bytes-name-requires : goal.put_bytes-name-requires
unfolding var_line
put_bytes-name-requires c =
    let w1 = c.put_bytes-word.ensures in
    wrote_room (identifier c.args.n ∷ name_word) w1 (omega (arith, simp length-append at c.requires.1))

pub put_decimal-number-requires : goal.put_decimal-number-requires
unfolding var_line
put_decimal-number-requires c =
    let w1 = c.put_bytes-word.ensures in
    let w2 = wrote_then w1 c.put_bytes-name.ensures (omega (arith, c.requires)) in
    wrote_room (decimal c.args.n) w2 (simp length-append (omega (arith, simp length-append at c.requires.1)))

pub put_bytes-requires : goal.put_bytes-requires
unfolding var_line
put_bytes-requires c =
    let w1 = c.put_bytes-word.ensures in
    let w2 = wrote_then w1 c.put_bytes-name.ensures (omega (arith, c.requires)) in
    let w3 = wrote_then w2 c.put_decimal-number.ensures (omega (arith, c.requires)) in
    wrote_room end_word w3 (simp length-append (omega (arith, simp length-append at c.requires.1)))

pub returns : goal.returns
unfolding var_line
returns c =
    let w1 = c.put_bytes-word.ensures in
    let w2 = wrote_then w1 c.put_bytes-name.ensures (omega (arith, c.requires)) in
    let w3 = wrote_then w2 c.put_decimal-number.ensures (omega (arith, c.requires)) in
    wrote_then w3 c.put_bytes.ensures (omega (arith, c.requires))
