-- `tell` meets its contract. Assumes nothing.
use mathlib.Core.Path.{sym, ◌∙◌}
use Rattle.std.proofs.Common.{◌≡◌, Err, rules}
use borrow.Author.Tests.{not-true, not-false}
use Rattle.diagram.proofs.Columns.{lengths_record}
use Rattle.diagram.specs.Call.{columns}
use Rattle.table.proofs.Entering.{part_long, part_ready}
use Rattle.calls.proofs.Answers.{told_buffer, told_refused, told_done}
use Rattle.calls.proofs.tell.tell.Goals as goal

pub lengths_legal-requires : goal.lengths_legal-requires
lengths_legal-requires c = tt

pub returns-then-not-lengths_legal : goal.returns-then-not-lengths_legal
returns-then-not-lengths_legal c = told_buffer c.args.what c.args.k c.args.letter.now c.args.low.now c.args.high.now c.args.used (sym c.lengths_legal.ensures ∙ not-true c.lengths_legal.result c.if-not-lengths_legal.true-raw)

pub index_len-n-requires : goal.index_len-n-requires
index_len-n-requires c = (lengths_record (columns c.args.letter.now c.args.low.now c.args.high.now) (sym c.lengths_legal.ensures ∙ not-false c.lengths_legal.result c.if-not-lengths_legal.false-raw)).most

pub slice_bounds-index-end : goal.slice_bounds-index-end
slice_bounds-index-end c = c.index_len-n.ensures.most

pub slice_bounds-opened-end : goal.slice_bounds-opened-end
slice_bounds-opened-end c = sym (part_long c.index_len-n.result 131072 c.index_len-n.ensures.most)

pub opened-requires : goal.opened-requires
opened-requires c = part_ready _ _ _ c.index_len-n.result 131072 (sym c.lengths_legal.ensures ∙ not-false c.lengths_legal.result c.if-not-lengths_legal.false-raw) c.index_len-n.ensures c.index_len-n.ensures.most

pub answer-requires : goal.answer-requires
answer-requires c = ((c.opened.ensures.opened c.in_ok-opened.was).legible, c.opened.ensures.asked c.in_ok-opened.was)

pub returns-in_err-opened : goal.returns-in_err-opened
returns-in_err-opened c = let e : c.from_residual.result ≡ Err c.in_err-opened.field-0.0 = search rules in rw e (told_refused _ _ _ _ _ _ c.opened.ensures _ c.in_err-opened.was)

pub returns : goal.returns
returns c = told_done _ _ _ _ _ _ c.opened.ensures c.in_ok-opened.was c.answer.ensures
