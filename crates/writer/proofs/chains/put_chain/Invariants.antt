-- `put_chain` meets its contract. Invariant: the records from the i-th on remain to be written.
use Rattle.cell.specs.Value.{firsts}
use Rattle.writer.proofs.Remains.{Remains}
use Rattle.writer.proofs.chains.put_chain.Given as goal

abbrev pub invariant-loop-i : goal.invariant-loop-i
invariant-loop-i g l = Remains g.R.SavedRecord.bytes l.r (firsts l.count g.R.FileRecord.NONE l.records) l.initial.out l.out l.at l.i l.end
