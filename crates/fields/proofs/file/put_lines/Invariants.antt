-- `put_lines` meets its contract. Invariant: the lines of the first i are written.
use Rattle.cell.specs.Value.{firsts}
use Rattle.fields.proofs.Rows.{Rows}
use Rattle.fields.proofs.file.put_lines.Given as goal

abbrev pub invariant-loop-i : goal.invariant-loop-i
invariant-loop-i g l = let r = g.R.Line in Rows r.line l.first (firsts l.count r.none l.records) l.initial.out l.out l.at l.i l.end
