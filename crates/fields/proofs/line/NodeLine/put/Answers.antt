-- `put` of Node meets its contract: piece by piece.
use native.Mathlib.Omega.{arith}
use lib.ListN.{length-append}
use borrow.Author.Rules.{rules}
use Rattle.text.specs.Decimal.{spaced}
use Rattle.text.proofs.Written.{wrote_then, wrote_room}
use Rattle.fields.specs.Words.{start_word}
use Rattle.fields.specs.Line.{role_word, source_end, node_line}
use Rattle.fields.proofs.Short.{node_short}
use Rattle.fields.proofs.line.NodeLine.put.Goals as goal

pub put_bytes-word-requires : goal.put_bytes-word-requires
unfolding node_line
put_bytes-word-requires c = omega (arith, c.requires, simp length-append at (node_short c.args.number c.args.self (search rules) (search rules) (search rules)))

pub put_spaced-own-requires : goal.put_spaced-own-requires
unfolding node_line
put_spaced-own-requires c =
    let w1 = c.put_bytes-word.ensures in
    wrote_room (spaced c.args.number) w1 (simp length-append (omega (arith, c.requires, simp length-append at (node_short c.args.number c.args.self (search rules) (search rules) (search rules)))))

pub put_either-role-requires : goal.put_either-role-requires
unfolding node_line
put_either-role-requires c =
    let w1 = c.put_bytes-word.ensures in
    let w2 = wrote_then w1 c.put_spaced-own.ensures (omega (arith, c.requires)) in
    wrote_room (role_word c.args.self.role) w2 (simp length-append (omega (arith, c.requires, simp length-append at (node_short c.args.number c.args.self (search rules) (search rules) (search rules)))))

pub put_spaced-capacitance-requires : goal.put_spaced-capacitance-requires
unfolding node_line
put_spaced-capacitance-requires c =
    let w1 = c.put_bytes-word.ensures in
    let w2 = wrote_then w1 c.put_spaced-own.ensures (omega (arith, c.requires)) in
    let w3 = wrote_then w2 c.put_either-role.ensures (omega (arith, c.requires)) in
    wrote_room (spaced c.args.self.capacitance.0) w3 (simp length-append (omega (arith, c.requires, simp length-append at (node_short c.args.number c.args.self (search rules) (search rules) (search rules)))))

pub put_bytes-start-requires : goal.put_bytes-start-requires
unfolding node_line
put_bytes-start-requires c =
    let w1 = c.put_bytes-word.ensures in
    let w2 = wrote_then w1 c.put_spaced-own.ensures (omega (arith, c.requires)) in
    let w3 = wrote_then w2 c.put_either-role.ensures (omega (arith, c.requires)) in
    let w4 = wrote_then w3 c.put_spaced-capacitance.ensures (omega (arith, c.requires)) in
    wrote_room (start_word) w4 (simp length-append (omega (arith, c.requires, simp length-append at (node_short c.args.number c.args.self (search rules) (search rules) (search rules)))))

pub put_source-requires : goal.put_source-requires
unfolding node_line
put_source-requires c =
    let w1 = c.put_bytes-word.ensures in
    let w2 = wrote_then w1 c.put_spaced-own.ensures (omega (arith, c.requires)) in
    let w3 = wrote_then w2 c.put_either-role.ensures (omega (arith, c.requires)) in
    let w4 = wrote_then w3 c.put_spaced-capacitance.ensures (omega (arith, c.requires)) in
    let w5 = wrote_then w4 c.put_bytes-start.ensures (omega (arith, c.requires)) in
    wrote_room (source_end c.args.self.start) w5 (simp length-append (omega (arith, c.requires, simp length-append at (node_short c.args.number c.args.self (search rules) (search rules) (search rules)))))

pub returns : goal.returns
unfolding node_line
returns c =
    let w1 = c.put_bytes-word.ensures in
    let w2 = wrote_then w1 c.put_spaced-own.ensures (omega (arith, c.requires)) in
    let w3 = wrote_then w2 c.put_either-role.ensures (omega (arith, c.requires)) in
    let w4 = wrote_then w3 c.put_spaced-capacitance.ensures (omega (arith, c.requires)) in
    let w5 = wrote_then w4 c.put_bytes-start.ensures (omega (arith, c.requires)) in
    let w6 = wrote_then w5 c.put_source.ensures (omega (arith, c.requires)) in
    record { wrote = w6; short = node_short c.args.number c.args.self (search rules) (search rules) (search rules) }
