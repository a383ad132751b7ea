-- `reader::read_fields` meets its contract: the cell that was made states the cell of the file, so that its check is that of the definition.
-- Assumes nothing.
use mathlib.Core.Path.{◌≡◌, refl, sym, ap, ◌∙◌}
use mathlib.Core.Bool.{Bool, ◌&&◌}
use borrow.Author.Tests.{not-true, not-false}
use Rattle.refusal.specs.declared.Refusal.TheVariants.{Record, Order}
use Rattle.refusal.specs.Answer.{answered, check}
use Rattle.format.specs.Circuit.{Circuit}
use Rattle.format.specs.Legal.{rising}
use Rattle.cell.specs.Value.{circuit_of, reading}
use Rattle.cell.specs.Reader.{circuit_at, fields_at}
use Rattle.cell.proofs.Read.{done, read_counted, fields_by}
use Rattle.cell.proofs.reader.read_fields.Goals as goal

pub fields_legal-requires : goal.fields_legal-requires
fields_legal-requires c = read_counted _ _ _ _ _ c.requires.full _ c.cell_at-cell.ensures

pub returns-then-not-blank-fields_legal : goal.returns-then-not-blank-fields_legal
unfolding reading
returns-then-not-blank-fields_legal c =
    let circuit : Circuit = (circuit_at c.args.file.now c.args.header c.args.ns c.args.ts c.args.es) in
    let by : (k o : Bool) → c.blank.result && c.fields_legal.result ≡ k → rising (circuit_of c.cell_at-cell.result).schedule ≡ o
    → fields_at c.args.file.now c.args.header c.args.ns c.args.ts c.args.es ≡ check k Record (check o Order (answered (circuit))) = (λ k o. let a = c.args in
    fields_by a.file.now a.header a.ns a.ts a.es _ _ _ c.cell_at-cell.ensures c.blank.ensures c.fields_legal.ensures) in
    sym (ap reading (by _ _ (not-true _ c.if-not-blank-fields_legal.true-raw) refl))

pub rising-requires : goal.rising-requires
rising-requires c = (read_counted _ _ _ _ _ c.requires.full _ c.cell_at-cell.ensures).entries

pub returns-then-not-rising : goal.returns-then-not-rising
unfolding circuit_of reading
returns-then-not-rising c =
    let circuit : Circuit = (circuit_at c.args.file.now c.args.header c.args.ns c.args.ts c.args.es) in
    let by : (k o : Bool) → c.blank.result && c.fields_legal.result ≡ k → rising (circuit_of c.cell_at-cell.result).schedule ≡ o
    → fields_at c.args.file.now c.args.header c.args.ns c.args.ts c.args.es ≡ check k Record (check o Order (answered (circuit))) = (λ k o. let a = c.args in
    fields_by a.file.now a.header a.ns a.ts a.es _ _ _ c.cell_at-cell.ensures c.blank.ensures c.fields_legal.ensures) in
    sym
    (ap reading
    (by _ _ (not-false _ c.if-not-blank-fields_legal.false-raw)
    (sym c.rising.ensures ∙ not-true _ c.if-not-rising.true-raw)))

pub returns : goal.returns
unfolding circuit_of
returns c =
    let circuit : Circuit = (circuit_at c.args.file.now c.args.header c.args.ns c.args.ts c.args.es) in
    let by : (k o : Bool) → c.blank.result && c.fields_legal.result ≡ k → rising (circuit_of c.cell_at-cell.result).schedule ≡ o
    → fields_at c.args.file.now c.args.header c.args.ns c.args.ts c.args.es ≡ check k Record (check o Order (answered (circuit))) = (λ k o. let a = c.args in
    fields_by a.file.now a.header a.ns a.ts a.es _ _ _ c.cell_at-cell.ensures c.blank.ensures c.fields_legal.ensures) in
    done (circuit) c.cell_at-cell.ensures
    ∙ sym
    (ap reading
    (by _ _ (not-false _ c.if-not-blank-fields_legal.false-raw)
    (sym c.rising.ensures ∙ not-false _ c.if-not-rising.false-raw)))
