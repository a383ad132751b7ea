-- `store` meets its contract. Assumes nothing.
use mathlib.Core.Path.{sym, ◌∙◌}
use native.Mathlib.Omega.{arith}
use borrow.Author.Tests.{not-true, not-false}
use Rattle.diagram.proofs.Columns.{lengths_record}
use Rattle.diagram.specs.Call.{columns}
use Rattle.table.proofs.Entering.{part_long, part_ready}
use Rattle.calls.proofs.Answers.{stored_buffer}
use Rattle.calls.proofs.store.store.Goals as goal

pub lengths_legal-requires : goal.lengths_legal-requires
lengths_legal-requires c = tt

pub shape_of-letter-then-not-lengths_legal : goal.shape_of-letter-then-not-lengths_legal
shape_of-letter-then-not-lengths_legal c = omega arith

pub shape_of-low-then-not-lengths_legal : goal.shape_of-low-then-not-lengths_legal
shape_of-low-then-not-lengths_legal c = omega arith

pub shape_of-high-then-not-lengths_legal : goal.shape_of-high-then-not-lengths_legal
shape_of-high-then-not-lengths_legal c = omega arith

pub returns-then-not-lengths_legal : goal.returns-then-not-lengths_legal
returns-then-not-lengths_legal c = stored_buffer c.args.what c.args.k c.args.letter.now c.args.low.now c.args.high.now c.args.used (sym c.lengths_legal.ensures ∙ not-true c.lengths_legal.result c.if-not-lengths_legal.true-raw)

pub index_len-n-requires : goal.index_len-n-requires
index_len-n-requires c = (lengths_record (columns c.args.letter.now c.args.low.now c.args.high.now) (sym c.lengths_legal.ensures ∙ not-false c.lengths_legal.result c.if-not-lengths_legal.false-raw)).most

pub slice_bounds-index-end : goal.slice_bounds-index-end
slice_bounds-index-end c = c.index_len-n.ensures.most

pub slice_bounds-store_open-end : goal.slice_bounds-store_open-end
slice_bounds-store_open-end c = sym (part_long c.index_len-n.result 131072 c.index_len-n.ensures.most)

pub store_open-requires : goal.store_open-requires
store_open-requires c = part_ready _ _ _ c.index_len-n.result 131072 (sym c.lengths_legal.ensures ∙ not-false c.lengths_legal.result c.if-not-lengths_legal.false-raw) c.index_len-n.ensures c.index_len-n.ensures.most

pub shape_of-letter : goal.shape_of-letter
shape_of-letter c = c.store_open.auto.letter

pub shape_of-low : goal.shape_of-low
shape_of-low c = c.store_open.auto.low

pub shape_of-high : goal.shape_of-high
shape_of-high c = c.store_open.auto.high

pub returns : goal.returns
returns c = c.store_open.ensures
