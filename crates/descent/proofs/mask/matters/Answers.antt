-- `matters`, by the kind of the place.
use mathlib.Core.Path.{sym, ◌∙◌}
use borrow.Author.Tests.{eq-eqb, ne_eqb}
use Rattle.descent.proofs.Matters.{matters_rail, matters_node, matters_arm, matters_seed, matters_late}
use Rattle.descent.proofs.mask.matters.Goals as goal

pub returns-then-j-lt-NODE : goal.returns-then-j-lt-NODE
returns-then-j-lt-NODE c = sym (matters_rail _ _ _ _ c.if-j-lt-NODE.true)

pub returns-then-j-lt-KEPT : goal.returns-then-j-lt-KEPT
returns-then-j-lt-KEPT c = sym (matters_node _ _ _ _ c.if-j-lt-NODE.false c.if-j-lt-KEPT.true)

pub returns-then-j-lt-LEAF : goal.returns-then-j-lt-LEAF
returns-then-j-lt-LEAF c = c.touching.ensures ∙ sym (matters_arm _ _ _ _ c.if-j-lt-KEPT.false c.if-j-lt-LEAF.true)

pub returns-then-sole-ne0 : goal.returns-then-sole-ne0
returns-then-sole-ne0 c = sym (matters_seed _ _ _ _ c.if-j-lt-LEAF.false c.if-j-lt-PENDING.true ∙ rw (ne_eqb _ _ c.if-sole-ne0.true))

pub returns-then-j-lt-PENDING : goal.returns-then-j-lt-PENDING
returns-then-j-lt-PENDING c = sym (matters_seed _ _ _ _ c.if-j-lt-LEAF.false c.if-j-lt-PENDING.true ∙ rw (eq-eqb _ _ c.if-sole-ne0.false))

pub returns : goal.returns
returns c = sym (matters_late _ _ _ _ c.if-j-lt-PENDING.false)
