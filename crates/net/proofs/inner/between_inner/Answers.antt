-- `inner::between_inner` meets its contract. Assumes nothing.
use mathlib.Core.Path.{sym, ◌∙◌}
use Rattle.net.proofs.inner.between_inner.Goals as goal

pub is_inner-requires : goal.is_inner-requires
is_inner-requires c =
    (c.requires.0, c.requires.1, (c.requires.1.transistor c.args.i c.requires.2).first)

pub is_inner-requires-then-is_inner : goal.is_inner-requires-then-is_inner
is_inner-requires-then-is_inner c =
    (c.requires.0, c.requires.1, (c.requires.1.transistor c.args.i c.requires.2).second)

pub returns-then-is_inner : goal.returns-then-is_inner
returns-then-is_inner c = rw (sym c.is_inner.ensures ∙ c.if-is_inner.true) c.is_inner-then-is_inner.ensures

pub returns-else-is_inner : goal.returns-else-is_inner
returns-else-is_inner c = rw (sym c.is_inner.ensures ∙ c.if-is_inner.false) c.if-is_inner.false
