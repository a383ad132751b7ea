-- `put_cell` meets its contract: piece by piece.
use mathlib.Core.List.{[], ◌∷◌}
use native.Mathlib.Omega.{arith}
use lib.ListN.{length-append}
use borrow.Author.Rules.{rules}
use Rattle.text.specs.Decimal.{decimal, spaced}
use Rattle.text.proofs.Written.{wrote_then, wrote_room}
use Rattle.fields.specs.Line.{cell_line}
use Rattle.fields.proofs.Short.{cell_short}
use Rattle.fields.proofs.line.put_cell.Goals as goal

pub put_bytes-word-requires : goal.put_bytes-word-requires
unfolding cell_line
put_bytes-word-requires c = omega (arith, c.requires, simp length-append at (cell_short c.args.h (search rules) (search rules) (search rules) (search rules) (search rules)))

pub put_spaced-nodes-requires : goal.put_spaced-nodes-requires
unfolding cell_line
put_spaced-nodes-requires c =
    let w1 = c.put_bytes-word.ensures in
    wrote_room (spaced c.args.h.nodes) w1 (simp length-append (omega (arith, c.requires, simp length-append at (cell_short c.args.h (search rules) (search rules) (search rules) (search rules) (search rules)))))

pub put_spaced-transistors-requires : goal.put_spaced-transistors-requires
unfolding cell_line
put_spaced-transistors-requires c =
    let w1 = c.put_bytes-word.ensures in
    let w2 = wrote_then w1 c.put_spaced-nodes.ensures (omega (arith, c.requires)) in
    wrote_room (spaced c.args.h.transistors) w2 (simp length-append (omega (arith, c.requires, simp length-append at (cell_short c.args.h (search rules) (search rules) (search rules) (search rules) (search rules)))))

pub put_spaced-entries-requires : goal.put_spaced-entries-requires
unfolding cell_line
put_spaced-entries-requires c =
    let w1 = c.put_bytes-word.ensures in
    let w2 = wrote_then w1 c.put_spaced-nodes.ensures (omega (arith, c.requires)) in
    let w3 = wrote_then w2 c.put_spaced-transistors.ensures (omega (arith, c.requires)) in
    wrote_room (spaced c.args.h.entries) w3 (simp length-append (omega (arith, c.requires, simp length-append at (cell_short c.args.h (search rules) (search rules) (search rules) (search rules) (search rules)))))

pub put_spaced-letters-requires : goal.put_spaced-letters-requires
unfolding cell_line
put_spaced-letters-requires c =
    let w1 = c.put_bytes-word.ensures in
    let w2 = wrote_then w1 c.put_spaced-nodes.ensures (omega (arith, c.requires)) in
    let w3 = wrote_then w2 c.put_spaced-transistors.ensures (omega (arith, c.requires)) in
    let w4 = wrote_then w3 c.put_spaced-entries.ensures (omega (arith, c.requires)) in
    wrote_room (spaced c.args.h.letters) w4 (simp length-append (omega (arith, c.requires, simp length-append at (cell_short c.args.h (search rules) (search rules) (search rules) (search rules) (search rules)))))

pub put_decimal_u64-horizon-requires : goal.put_decimal_u64-horizon-requires
unfolding cell_line
put_decimal_u64-horizon-requires c =
    let w1 = c.put_bytes-word.ensures in
    let w2 = wrote_then w1 c.put_spaced-nodes.ensures (omega (arith, c.requires)) in
    let w3 = wrote_then w2 c.put_spaced-transistors.ensures (omega (arith, c.requires)) in
    let w4 = wrote_then w3 c.put_spaced-entries.ensures (omega (arith, c.requires)) in
    let w5 = wrote_then w4 c.put_spaced-letters.ensures (omega (arith, c.requires)) in
    wrote_room (decimal c.args.h.horizon.0) w5 (simp length-append (omega (arith, c.requires, simp length-append at (cell_short c.args.h (search rules) (search rules) (search rules) (search rules) (search rules)))))

pub put_byte-requires : goal.put_byte-requires
unfolding cell_line
put_byte-requires c =
    let w1 = c.put_bytes-word.ensures in
    let w2 = wrote_then w1 c.put_spaced-nodes.ensures (omega (arith, c.requires)) in
    let w3 = wrote_then w2 c.put_spaced-transistors.ensures (omega (arith, c.requires)) in
    let w4 = wrote_then w3 c.put_spaced-entries.ensures (omega (arith, c.requires)) in
    let w5 = wrote_then w4 c.put_spaced-letters.ensures (omega (arith, c.requires)) in
    let w6 = wrote_then w5 c.put_decimal_u64-horizon.ensures (omega (arith, c.requires)) in
    wrote_room (10 ∷ []) w6 (simp length-append (omega (arith, c.requires, simp length-append at (cell_short c.args.h (search rules) (search rules) (search rules) (search rules) (search rules)))))

pub returns : goal.returns
unfolding cell_line
returns c =
    let w1 = c.put_bytes-word.ensures in
    let w2 = wrote_then w1 c.put_spaced-nodes.ensures (omega (arith, c.requires)) in
    let w3 = wrote_then w2 c.put_spaced-transistors.ensures (omega (arith, c.requires)) in
    let w4 = wrote_then w3 c.put_spaced-entries.ensures (omega (arith, c.requires)) in
    let w5 = wrote_then w4 c.put_spaced-letters.ensures (omega (arith, c.requires)) in
    let w6 = wrote_then w5 c.put_decimal_u64-horizon.ensures (omega (arith, c.requires)) in
    let w7 = wrote_then w6 c.put_byte.ensures (omega (arith, c.requires)) in
    record { wrote = w7; short = cell_short c.args.h (search rules) (search rules) (search rules) (search rules) (search rules) }
