-- `in_ohms` follows its definition's two cases.
use Rattle.plain.proofs.change.in_ohms.Goals as goal

pub returns-in-Infinite : goal.returns-in-Infinite
returns-in-Infinite c = rw c.in-Infinite.is

pub returns-in-Finite : goal.returns-in-Finite
returns-in-Finite c = rw c.in-Finite.is
