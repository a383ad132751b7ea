-- `put_declarations` meets its contract. Piece by piece.
use native.Mathlib.Omega.{arith}
use lib.ListN.{length-append}
use Rattle.text.proofs.Written.{wrote_then, wrote_room}
use Rattle.vcd.specs.Words.{scope_line, upscope_line, defined_line}
use Rattle.vcd.specs.Lines.{by_node, var_line, declarations}
use Rattle.vcd.proofs.put_declarations.Goals as goal

pub put_bytes-scale-requires : goal.put_bytes-scale-requires
unfolding declarations
put_bytes-scale-requires c = omega (arith, simp length-append at c.requires.1)

pub put_bytes-scope-requires : goal.put_bytes-scope-requires
unfolding declarations
put_bytes-scope-requires c =
    let w1 = c.put_bytes-scale.ensures in
    wrote_room scope_line w1 (omega (arith, simp length-append at c.requires.1))

pub put_vars-vars-requires : goal.put_vars-vars-requires
unfolding declarations
put_vars-vars-requires c =
    let w1 = c.put_bytes-scale.ensures in
    let w2 = wrote_then w1 c.put_bytes-scope.ensures (omega (arith, c.requires)) in (
      c.requires.0,
      wrote_room (by_node c.args.nodes var_line) w2 (simp length-append (omega (arith, simp length-append at c.requires.1))),
    )

pub put_bytes-up-requires : goal.put_bytes-up-requires
unfolding declarations
put_bytes-up-requires c =
    let w1 = c.put_bytes-scale.ensures in
    let w2 = wrote_then w1 c.put_bytes-scope.ensures (omega (arith, c.requires)) in
    let w3 = wrote_then w2 c.put_vars-vars.ensures (omega (arith, c.requires)) in
    wrote_room upscope_line w3 (simp length-append (omega (arith, simp length-append at c.requires.1)))

pub put_bytes-requires : goal.put_bytes-requires
unfolding declarations
put_bytes-requires c =
    let w1 = c.put_bytes-scale.ensures in
    let w2 = wrote_then w1 c.put_bytes-scope.ensures (omega (arith, c.requires)) in
    let w3 = wrote_then w2 c.put_vars-vars.ensures (omega (arith, c.requires)) in
    let w4 = wrote_then w3 c.put_bytes-up.ensures (omega (arith, c.requires)) in
    wrote_room defined_line w4 (simp length-append (omega (arith, simp length-append at c.requires.1)))

pub returns : goal.returns
unfolding declarations
returns c =
    let w1 = c.put_bytes-scale.ensures in
    let w2 = wrote_then w1 c.put_bytes-scope.ensures (omega (arith, c.requires)) in
    let w3 = wrote_then w2 c.put_vars-vars.ensures (omega (arith, c.requires)) in
    let w4 = wrote_then w3 c.put_bytes-up.ensures (omega (arith, c.requires)) in
    wrote_then w4 c.put_bytes.ensures (omega (arith, c.requires))
