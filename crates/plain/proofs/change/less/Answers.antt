-- `less` follows its definition's cases.
use Rattle.plain.proofs.change.less.Goals as goal

pub returns-in-Finite-b : goal.returns-in-Finite-b
returns-in-Finite-b c = rw (c.in-Finite.is, c.in-Finite-b.is)
