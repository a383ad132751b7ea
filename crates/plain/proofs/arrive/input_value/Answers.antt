-- `input_value`: the source that is due, or the present value.
use mathlib.Core.Path.{sym, ◌∙◌}
use native.Mathlib.Omega.{arith}
use borrow.Author.Tests.{eq-eqb, ne_eqb}
use Rattle.plain.proofs.arrive.input_value.Goals as goal

pub returns-then-byte-eq-NONE : goal.returns-then-byte-eq-NONE
returns-then-byte-eq-NONE c =
    let a = c.args in sym (c.source_at-byte.ensures.is a.p a.present ∙ rw (eq-eqb _ _ c.if-byte-eq-NONE.true))

pub source_value-requires : goal.source_value-requires
source_value-requires c = omega (arith, c.source_at-byte.ensures.legal c.if-byte-eq-NONE.false, c.requires.within.letters)

pub returns : goal.returns
returns c =
    let a = c.args in c.source_value.ensures ∙ sym (c.source_at-byte.ensures.is a.p a.present ∙ rw (ne_eqb _ _ c.if-byte-eq-NONE.false))
