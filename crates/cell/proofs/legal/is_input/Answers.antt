-- `legal::is_input` meets its contract: past the count there is no record, and no record is no input. Assumes nothing.
use Rattle.std.proofs.lemmas.Bool.{le-leb, le-ltb}
use Rattle.format.specs.Circuit.{no_node}
use Rattle.cell.specs.Value.{circuit_of}
use Rattle.cell.proofs.Firsts.{firsts_at, firsts_past}
use Rattle.cell.proofs.legal.is_input.Goals as goal

pub returns-then-at-cell : goal.returns-then-at-cell
unfolding circuit_of
returns-then-at-cell c = rw (le-leb 2 _ c.if-n-lt-FIRST_NODE_NUMBER.false, firsts_at no_node _ _ _ c.if-at-cell.true)

pub returns-else-at-cell : goal.returns-else-at-cell
unfolding circuit_of
returns-else-at-cell c = rw (le-leb 2 _ c.if-n-lt-FIRST_NODE_NUMBER.false, firsts_past no_node _ _ _ c.if-at-cell.false, le-ltb _ _ c.if-at-cell.false)
