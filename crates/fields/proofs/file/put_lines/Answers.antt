use Rattle.std.proofs.Common.{◌≡◌, length, sym, ◌∙◌, arith, rules}
use Rattle.std.proofs.lemmas.List.{get_or_default}
use Rattle.cell.specs.Value.{firsts}
use Rattle.cell.proofs.Firsts.{length_firsts, firsts_at}
use Rattle.fields.proofs.Rows.{rows_none, rows_room, rows_more, rows_done}
use Rattle.fields.proofs.file.put_lines.Goals as goal

pub loop-i-init : goal.loop-i-init
loop-i-init g c = let r = g.R.Line in rows_none r.line c.args.first (firsts c.args.count r.none c.args.records) c.args.out.now c.args.at

pub loop-i-preserved : goal.loop-i-preserved
loop-i-preserved g c =
    let r = g.R.Line in
    let a = c.args in
    let l = c.loop-i in
    let n = length_firsts r.none a.count a.records in
    let places : length a.records ≡ g.row.N = search rules in
    let record_is = get_or_default a.records l.i c.index-records-i.result r.none (omega arith) in
    rows_more r.line a.first (firsts a.count r.none a.records) r.none l.invariant (omega (arith, c.loop-i-test.true)) (omega (arith, c.requires.2)) (omega arith)
    (record_is ∙ sym (firsts_at r.none a.count a.records l.i c.loop-i-test.true))
    (rows_room r.line a.first (firsts a.count r.none a.records) g.row.N l.invariant (omega (arith, c.loop-i-test.true)) (omega arith) c.requires.2) c.put-end.ensures

pub returns : goal.returns
returns g c =
    let r = g.R.Line in
    let n = length_firsts r.none c.args.count c.args.records in
    rows_done r.line c.args.first (firsts c.args.count r.none c.args.records) g.row.N c.loop-i.invariant (omega (arith, c.loop-i-test.false)) (omega arith)
