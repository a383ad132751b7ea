use Rattle.std.proofs.Common.{◌≡◌, ◌+◌, ◌-◌, length, get_or, arith, rules}
use Rattle.std.proofs.lemmas.List.{get_or_default}
use Rattle.format.specs.Saved.{first_from}
use Rattle.cell.specs.Value.{firsts}
use Rattle.cell.proofs.Firsts.{length_firsts, firsts_at}
use Rattle.writer.proofs.Remains.{remain_fewer, remain_none}
use Rattle.writer.proofs.chains.put_chain.Goals as goal

pub loop-i-preserved : goal.loop-i-preserved
loop-i-preserved g c =
    let bytes = g.R.SavedRecord.bytes in
    let none = g.R.FileRecord.NONE in
    let a = c.args in
    let l = c.loop-i in
    let h = c.loop-i-test.true in
    let n = length_firsts none a.count a.records in
    let places : length a.records ≡ g.row.N = search rules in
    let record_is = get_or_default a.records l.i c.index-records-i.result none (omega arith) in
    let written : c.bytes-bytes.result ≡ bytes (first_from (a.r + l.i + 1) (a.count - l.i - 1)) (get_or a.records l.i none) =
    rw (← c.first_from-next.ensures, ← record_is) c.bytes-bytes.ensures in
    remain_fewer bytes g.met.R.SavedRecord.long a.r (firsts a.count none a.records) none l.invariant (omega (arith, h)) (omega (arith, c.requires.2))
    (rw (n, firsts_at none a.count a.records l.i h) written) c.put_bytes-end.ensures

pub returns : goal.returns
returns g c =
    let none = g.R.FileRecord.NONE in
    let n = length_firsts none c.args.count c.args.records in
    remain_none g.R.SavedRecord.bytes g.met.R.SavedRecord.long c.args.r (firsts c.args.count none c.args.records) c.loop-i.invariant (omega (arith, c.loop-i-test.false))
