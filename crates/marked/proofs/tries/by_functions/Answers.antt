-- `by_functions` meets its contract: what the first entries leave is as it was. Assumes nothing.
use Rattle.net.specs.Net.{at, net_circuit}
use Rattle.marked.proofs.Entries.{legal_again}
use Rattle.marked.proofs.Trying.{again_open, again_entries, again_leasts, again_stored, again_same, or_first}
use Rattle.marked.proofs.tries.by_functions.Goals as goal

pub try_all-requires : goal.try_all-requires
try_all-requires c =
    let same = (c.try_first-first.ensures.1 (or_first c.try_first-first.result.done _ c.if-first-wletter.false)) in let e = again_entries same (record { first = c.requires.value_entries.0; second = c.requires.value_entries.1; third = c.requires.value_entries.2 }) in
    record { laid = (c.requires.laid.0, again_open same c.requires.laid.1, legal_again c.try_first-first.new.wletter c.try_first-first.new.wlow c.try_first-first.new.whigh c.requires.laid.2 c.try_first-first.auto.wletter c.try_first-first.auto.wlow c.try_first-first.auto.whigh); value_entries = (e.first, e.second, e.third, c.requires.value_entries.3, again_leasts (at c.args.net.now 3) c.args.used same c.args.pending c.args.least.now c.requires.value_entries.4) }

pub returns : goal.returns
returns c =
    let same = (c.try_first-first.ensures.1 (or_first c.try_first-first.result.done _ c.if-first-wletter.false)) in ((λ d. again_stored (at c.args.net.now 3) c.args.used same (net_circuit c.args.net.now) c.args.time c.args.all c.args.before c.args.after c.args.pending (c.try_all.ensures.0 d)), λ d. again_same same (c.try_all.ensures.1 d))
