use Rattle.std.proofs.Common.{sym, ◌∙◌, arith, rules}
use Rattle.text.proofs.Number.{parsed_none, parsed_some, from_other, from_more, from_whole, with_digit_small}
use Rattle.text.proofs.parse.Goals as goal

pub returns-then-is_empty : goal.returns-then-is_empty
returns-then-is_empty c = parsed_none c.args.text.now (search rules)

pub loop-byte-init : goal.loop-byte-init
loop-byte-init c = (omega arith, parsed_some c.args.text.now (search rules))

pub returns-then-not-is_ascii_digit : goal.returns-then-not-is_ascii_digit
returns-then-not-is_ascii_digit c =
    let l = c.loop-byte in
    from_other c.args.text.now l.value l.byte-index c.loop-byte-test.true (sym c.if-not-is_ascii_digit.ensures.value) ∙ l.invariant.1

pub loop-byte-preserved : goal.loop-byte-preserved
loop-byte-preserved c =
    let l = c.loop-byte in
    let text = c.args.text.now in
    let d = c.with_digit-value.ensures in (
      omega (arith, d, with_digit_small l.value _ c.if-not-is_ascii_digit.ensures.cases.1 l.invariant.0),
      rw d (sym (from_more text l.value l.byte-index c.loop-byte-test.true (sym c.if-not-is_ascii_digit.ensures.value)) ∙ l.invariant.1),
    )

pub returns : goal.returns
returns c =
    let l = c.loop-byte in
    c.or.ensures ∙ from_whole c.args.text.now l.value l.byte-index c.loop-byte-test.false c.try_from.result c.try_from.ensures ∙ l.invariant.1
