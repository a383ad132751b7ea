-- `step`: the values once all of T has happened, and the next changes of the nodes that are reconsidered.
use mathlib.Core.Path.{◌≡◌, sym, ◌∙◌}
use lib.ListN.{length}
use Rattle.plain.proofs.Stepping.{step_between, step_over, step_goes}
use borrow.Author.Rules.{rules}
use Rattle.plain.proofs.step.step.Goals as goal

pub values_after-values-requires : goal.values_after-values-requires
values_after-values-requires c =
    let full : length c.args.s.changes ≡ 26 = (search rules) in
    (c.requires.0, c.requires.1, full)

pub changes_after-changes-requires : goal.changes_after-changes-requires
changes_after-changes-requires c =
    let full : length c.args.s.changes ≡ 26 = (search rules) in
    (step_between c.args.net.now c.requires.0 c.args.time c.args.p c.args.s.values c.args.s.changes c.requires.1 (full) c.values_after-values.ensures, full)

pub returns-then-any_exceeded : goal.returns-then-any_exceeded
returns-then-any_exceeded c =
    let full : length c.args.s.changes ≡ 26 = (search rules) in
    let w = c.values_after-values in
    step_over c.args.net.now c.requires.0 c.args.time c.args.p c.args.s.values c.args.s.changes c.requires.1 full w.ensures c.changes_after-changes.ensures
    c.requires.2 (sym c.if-any_exceeded.true ∙ c.any_exceeded.ensures w.result)

pub returns : goal.returns
returns c =
    let full : length c.args.s.changes ≡ 26 = (search rules) in
    let w = c.values_after-values in
    step_goes c.args.net.now c.requires.0 c.args.time c.args.p c.args.s.values c.args.s.changes c.requires.1 full w.ensures c.changes_after-changes.ensures
    c.requires.2 (sym c.if-any_exceeded.false ∙ c.any_exceeded.ensures w.result)
