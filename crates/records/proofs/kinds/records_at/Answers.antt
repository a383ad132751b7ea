use Rattle.std.proofs.Common.{arith, rules}
use Rattle.records.proofs.Filled.{filled_none, filled_more}
use Rattle.records.proofs.kinds.records_at.Goals as goal

pub loop-k-init : goal.loop-k-init
loop-k-init g c = let r = g.R.FileRecord in rw c.NONE-found.ensures (filled_none (r.at c.args.file.now) g.row.N r.NONE 0 c.args.records)

pub loop-k-preserved : goal.loop-k-preserved
loop-k-preserved g c =
    let r = g.R.FileRecord in
    filled_more (r.at c.args.file.now) g.row.N r.NONE 0 c.args.records _ _ _ c.loop-k.invariant c.read.ensures (omega arith) (search rules)
