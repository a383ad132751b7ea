-- `put_entry` meets its contract. Assumes nothing.
use mathlib.Core.List.{[]}
use Rattle.lines.specs.Lines.{line_room}
use Rattle.lines.proofs.Pieces.{put_none, put_yes, put_no}
use Rattle.lines.proofs.put_entry.Goals as goal

pub returns-then-not-listed : goal.returns-then-not-listed
returns-then-not-listed c = put_no _ c.if-not-listed.true (put_none c.args.out.now c.args.at line_room)

pub returns : goal.returns
returns c = put_yes [] c.if-not-listed.false (rw c.count-patterns.ensures at c.put_node.ensures)
