-- `start`: the sources, and the next changes of every inner node.
use mathlib.Core.Path.{sym, ◌∙◌}
use Prim.Native.Nat.{ℕ}
use lib.ListN.{length-replicate}
use Rattle.plain.proofs.Stepping.{start_between, start_over, start_goes}
use Rattle.plain.proofs.step.start.Goals as goal

pub changes_after-changes-requires : goal.changes_after-changes-requires
changes_after-changes-requires c = (start_between c.args.net.now c.requires c.args.p c.sources-values.ensures, length-replicate {A = ℕ} 26 4294967295)

pub returns-then-any_exceeded : goal.returns-then-any_exceeded
returns-then-any_exceeded c =
    start_over c.args.net.now c.requires c.args.p c.sources-values.ensures c.changes_after-changes.ensures
    (sym c.if-any_exceeded.true ∙ c.any_exceeded.ensures c.sources-values.result)

pub returns : goal.returns
returns c =
    start_goes c.args.net.now c.requires c.args.p c.sources-values.ensures c.changes_after-changes.ensures
    (sym c.if-any_exceeded.false ∙ c.any_exceeded.ensures c.sources-values.result)
