-- `Cell::check` meets its contract: each test is the definition's, and a failed one ends the check with its refusal. Assumes nothing.
use mathlib.Core.Path.{◌≡◌, refl, sym, ap, ◌∙◌}
use mathlib.Core.Bool.{true}
use borrow.Author.Tests.{not-true, not-false}
use Rattle.refusal.specs.Answer.{reply_of}
use Rattle.format.specs.Legal.{limits_kept, fields_legal}
use Rattle.cell.specs.Value.{circuit_of}
use Rattle.cell.proofs.Kept.{counted}
use Rattle.cell.proofs.Check.{check_by}
use Rattle.cell.proofs.Cell.check.Goals as goal

pub returns-then-not-limits_kept : goal.returns-then-not-limits_kept
returns-then-not-limits_kept c = sym (ap reply_of (check_by _ (sym c.limits_kept.ensures ∙ not-true _ c.if-not-limits_kept.true-raw) refl refl))

pub fields_legal-requires : goal.fields_legal-requires
fields_legal-requires c =
    let kept : limits_kept c.args.self.header ≡ true = (sym c.limits_kept.ensures ∙ not-false _ c.if-not-limits_kept.false-raw) in
    counted _ (kept)

pub returns-then-not-fields_legal : goal.returns-then-not-fields_legal
returns-then-not-fields_legal c =
    let kept : limits_kept c.args.self.header ≡ true = (sym c.limits_kept.ensures ∙ not-false _ c.if-not-limits_kept.false-raw) in
    sym (ap reply_of (check_by _ (kept) (sym c.fields_legal.ensures ∙ not-true _ c.if-not-fields_legal.true-raw) refl))

pub rising-requires : goal.rising-requires
rising-requires c =
    let kept : limits_kept c.args.self.header ≡ true = (sym c.limits_kept.ensures ∙ not-false _ c.if-not-limits_kept.false-raw) in
    (counted _ (kept)).entries

pub returns-then-not-rising : goal.returns-then-not-rising
unfolding circuit_of
returns-then-not-rising c =
    let kept : limits_kept c.args.self.header ≡ true = (sym c.limits_kept.ensures ∙ not-false _ c.if-not-limits_kept.false-raw) in
    let legal : fields_legal (circuit_of c.args.self) ≡ true = (sym c.fields_legal.ensures ∙ not-false _ c.if-not-fields_legal.false-raw) in
    sym
    (ap reply_of
    (check_by _ (kept) (legal)
    (sym c.rising.ensures ∙ not-true _ c.if-not-rising.true-raw)))

pub returns : goal.returns
unfolding circuit_of
returns c =
    let kept : limits_kept c.args.self.header ≡ true = (sym c.limits_kept.ensures ∙ not-false _ c.if-not-limits_kept.false-raw) in
    let legal : fields_legal (circuit_of c.args.self) ≡ true = (sym c.fields_legal.ensures ∙ not-false _ c.if-not-fields_legal.false-raw) in
    sym
    (ap reply_of
    (check_by _ (kept) (legal)
    (sym c.rising.ensures ∙ not-false _ c.if-not-rising.false-raw)))
