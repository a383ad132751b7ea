-- `source_value`: a constant, a letter or its complement.
use mathlib.Core.Path.{sym, ◌∙◌}
use borrow.Author.Tests.{eq-eqb, ne_eqb}
use Rattle.rules.proofs.Arrive.{source_constant, source_letter}
use Rattle.plain.proofs.arrive.source_value.Goals as goal

pub returns-then-byte-lt2 : goal.returns-then-byte-lt2
returns-then-byte-lt2 c =
    let a = c.args in sym (source_constant a.byte a.p c.if-byte-lt2.true)

pub returns-then-byte-eq0 : goal.returns-then-byte-eq0
returns-then-byte-eq0 c =
    let a = c.args in sym (source_letter a.byte a.p c.if-byte-lt2.false ∙ rw (eq-eqb _ _ c.if-byte-eq0.true))

pub returns : goal.returns
returns c =
    let a = c.args in sym (source_letter a.byte a.p c.if-byte-lt2.false ∙ rw (ne_eqb _ _ c.if-byte-eq0.false))
