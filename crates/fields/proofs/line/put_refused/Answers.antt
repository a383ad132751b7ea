-- `put_refused` meets its contract: the word and the number.
use mathlib.Core.Path.{ap}
use mathlib.Core.List.{◌++◌}
use Prim.Native.Nat.{ℕ}
use native.Mathlib.Omega.{arith}
use lib.ListN.{length, length-append}
use Rattle.text.specs.Decimal.{decimal, ended}
use Rattle.text.specs.Written.{Wrote}
use Rattle.text.proofs.Written.{wrote_then, wrote_room}
use Rattle.fields.specs.Words.{refused_word}
use Rattle.fields.specs.Line.{refused_line}
use Rattle.fields.proofs.Short.{refused_short}
use Rattle.fields.proofs.line.put_refused.Goals as goal

pub put_bytes-word-requires : goal.put_bytes-word-requires
unfolding refused_line
put_bytes-word-requires c = omega (arith, c.requires, simp length-append at (refused_short c.args.why))

pub put_ended-requires : goal.put_ended-requires
unfolding refused_line
put_ended-requires c =
    let n = c.from-number in
    wrote_room (ended n.result) c.put_bytes-word.ensures
    (simp length-append (omega (arith, c.requires, ap (λ (k : ℕ). length (decimal k)) n.ensures, simp length-append at (refused_short c.args.why))))

pub returns : goal.returns
unfolding refused_line
returns c =
    let n = c.from-number in
    let w : Wrote _ _ _ (refused_word ++ ended n.result) _ = wrote_then c.put_bytes-word.ensures c.put_ended.ensures (omega (arith, c.requires)) in
    record { wrote = rw (← n.ensures) w; short = refused_short c.args.why }
