-- `ask_replied` meets its contract: 8, the cell, and then the question. Assumes nothing.
use Rattle.std.proofs.Common.{◌≡◌, Err, rules}
use mathlib.Core.Path.{sym, ◌∙◌}
use borrow.Author.Tests.{not-true, not-false}
use Rattle.refusal.specs.Answer.{refused}
use Rattle.diagram.specs.Call.{columns}
use Rattle.advance.specs.Task.{run_in}
use Rattle.cell.specs.Value.{cell_by}
use Rattle.run.proofs.Questions.{asked_buffer, asked_cell}
use Rattle.run.proofs.ask.ask_replied.Goals as goal

pub returns-then-not-lengths_legal : goal.returns-then-not-lengths_legal
returns-then-not-lengths_legal c =
    let cell = cell_by c.args.read in
    asked_buffer cell (columns c.args.letter.now c.args.low.now c.args.high.now) (run_in cell c.args.r) c.args.n c.args.p (sym c.lengths_legal.ensures ∙ not-true _ c.if-not-lengths_legal.true-raw)

pub ask_legal-requires : goal.ask_legal-requires
ask_legal-requires c = (rw c.in_ok-read.was at c.requires.legal, sym c.lengths_legal.ensures ∙ not-false _ c.if-not-lengths_legal.false-raw)

pub returns-in_err-read : goal.returns-in_err-read
returns-in_err-read c =
    let e : c.from_residual.result ≡ Err c.in_err-read.field-0.0 = search rules in
    rw (e, c.in_err-read.was)
    (asked_cell c.in_err-read.field-0.0 (columns c.args.letter.now c.args.low.now c.args.high.now) (run_in (refused c.in_err-read.field-0.0) c.args.r) c.args.n c.args.p (sym c.lengths_legal.ensures ∙ not-false _ c.if-not-lengths_legal.false-raw))

pub returns : goal.returns
returns c = rw c.in_ok-read.was c.ask_legal.ensures
