-- `reconsider` meets its contract: by functions, or node by node. Assumes nothing.
use Rattle.net.specs.Net.{at, net_circuit}
use Rattle.marked.proofs.Entries.{lent_again}
use Rattle.marked.proofs.Trying.{again_open, again_entries, again_stored}
use Rattle.changes.proofs.reconsider.Goals as goal

pub stirred_nodes-marks-requires : goal.stirred_nodes-marks-requires
stirred_nodes-marks-requires c = record { net = c.requires.laid.0; before_len = (c.requires.value_entries.0.long, c.requires.value_entries.1.long) }

pub by_functions-tried-requires : goal.by_functions-tried-requires
by_functions-tried-requires c = record { laid = c.requires.laid; value_entries = (c.requires.value_entries.0, c.requires.value_entries.1, c.requires.value_entries.2, c.stirred_nodes-marks.ensures, c.requires.value_entries.3) }

pub returns-then-tried : goal.returns-then-tried
returns-then-tried c = c.by_functions-tried.ensures.0 c.if-tried.true

pub all_by_entries-requires : goal.all_by_entries-requires
all_by_entries-requires c =
    let same = (c.by_functions-tried.ensures.1 c.if-tried.false) in let e = again_entries same (record { first = c.requires.value_entries.0; second = c.requires.value_entries.1; third = c.requires.value_entries.2 }) in
    record { net = (c.requires.laid.0, again_open same c.requires.laid.1, lent_again (record { letter_long = c.by_functions-tried.auto.wletter; low_long = c.by_functions-tried.auto.wlow; high_long = c.by_functions-tried.auto.whigh; index_long = c.by_functions-tried.auto.windex }) c.requires.laid.2); value_entries = (e.first, e.second, e.third) }

pub returns : goal.returns
returns c = again_stored (at c.args.net.now 3) c.args.used (c.by_functions-tried.ensures.1 c.if-tried.false) (net_circuit c.args.net.now) c.args.time c.args.all c.args.before c.args.after c.args.pending c.all_by_entries.ensures
