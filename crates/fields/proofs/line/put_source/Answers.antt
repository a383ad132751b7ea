-- `put_source` meets its contract: low, high, or a letter.
use Rattle.std.proofs.Common.{◌≡◌, ◌++◌, arith, rules, length-append}
use Rattle.format.specs.Source.{letter_of}
use Rattle.text.specs.Decimal.{ended}
use Rattle.text.proofs.Written.{wrote_then, wrote_room}
use Rattle.fields.specs.Line.{letter_form, source_end}
use Rattle.fields.proofs.Source.{source_low, source_high, source_letter}
use Rattle.fields.proofs.line.put_source.Goals as goal

pub put_bytes-requires : goal.put_bytes-requires
put_bytes-requires c = rw (source_low c.args.source c.in-0.is) at c.requires

pub returns-in-0 : goal.returns-in-0
returns-in-0 c = rw (source_low c.args.source c.in-0.is) c.put_bytes.ensures

pub put_bytes-requires-in-1 : goal.put_bytes-requires-in-1
put_bytes-requires-in-1 c = rw (source_high c.args.source (λ e. omega (arith, c.in-1.is)) c.in-1.is) at c.requires

pub returns-in-1 : goal.returns-in-1
returns-in-1 c = rw (source_high c.args.source (λ e. omega (arith, c.in-1.is)) c.in-1.is) c.put_bytes-in-1.ensures

pub put_either-word-requires : goal.put_either-word-requires
put_either-word-requires c =
    let letter : source_end c.args.source ≡ letter_form c.args.source ++ ended (letter_of c.args.source) = source_letter c.args.source (search rules) (search rules) in
    omega (arith, simp length-append at (rw letter at c.requires))

pub put_ended-requires : goal.put_ended-requires
put_ended-requires c =
    let letter : source_end c.args.source ≡ letter_form c.args.source ++ ended (letter_of c.args.source) = source_letter c.args.source (search rules) (search rules) in
    wrote_room (ended (letter_of c.args.source)) c.put_either-word.ensures (simp length-append (omega (arith, simp length-append at (rw letter at c.requires))))

pub returns-in_default : goal.returns-in_default
returns-in_default c =
    rw (source_letter c.args.source (search rules) (search rules)) (wrote_then c.put_either-word.ensures c.put_ended.ensures (omega (arith, c.requires)))
