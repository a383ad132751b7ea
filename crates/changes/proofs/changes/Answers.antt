-- `changes` meets its contract: at rest where nothing is stirred, else reconsidered. Assumes nothing.
use borrow.Author.Tests.{not-true}
use mathlib.Core.Path.{sym, ◌∙◌}
use mathlib.Core.Bool.{not}
use Rattle.lists.proofs.Cases.{and_left, and_right}
use Rattle.marked.proofs.Stirring.{rest_stored}
use Rattle.changes.proofs.changes.Goals as goal

pub all_at_rest-requires : goal.all_at_rest-requires
all_at_rest-requires c = (c.requires.laid.0, c.requires.laid.1, c.requires.value_entries.2, c.requires.value_entries.3)

pub returns-then-all-stirred : goal.returns-then-all-stirred
returns-then-all-stirred c =
    let found = c.stirred in
    let test = c.if-all-stirred.true in
    rest_stored c.requires.laid.0 c.requires.laid.1 (record { first = c.requires.value_entries.0; second = c.requires.value_entries.1; third = c.requires.value_entries.2 }) c.args.time (not-true c.args.all (and_left (not c.args.all) (not found.result) test)) (sym found.ensures ∙ not-true found.result (and_right (not c.args.all) (not found.result) test)) c.all_at_rest.ensures

pub reconsider-requires : goal.reconsider-requires
reconsider-requires c = record { laid = c.requires.laid; value_entries = c.requires.value_entries }
