-- `time_after` meets its contract: the least over patterns of the soonest of a pattern is the smaller of the least pending number and the earliest time of the schedule. Assumes nothing.
use borrow.Author.Rules.{rules}
use mathlib.Core.Path.{◌≡◌, ◌∙◌, ap₂}
use Prim.Native.Nat.{min}
use native.Mathlib.Omega.{arith}
use lib.ListN.{length}
use Rattle.net.specs.Net.{net_circuit}
use Rattle.record.proofs.Leasts.{leasts_within, leasts_among}
use Rattle.record.proofs.Read.{change_used, time_is}
use Rattle.record.proofs.time_after.Goals as goal

pub least_among-pending-requires : goal.least_among-pending-requires
unfolding net_circuit
least_among-pending-requires c =
    let full : (length c.args.r.values ≡ 24) × (length c.args.r.changes ≡ 24) = ((search rules, search rules)) in
    (c.requires.laid.0.within.nodes, λ i l. omega (arith, change_used c.args.net.now c.args.letter.now c.args.low.now c.args.high.now c.args.r (full).0 (full).1 c.requires.laid.0.within.nodes c.requires.laid.1 c.requires.laid.2 i l, leasts_within c.fill.ensures.1))

pub returns : goal.returns
unfolding net_circuit
returns c =
    let full : (length c.args.r.values ≡ 24) × (length c.args.r.changes ≡ 24) = ((search rules, search rules)) in
    let filled = c.fill.ensures in
    let used = change_used c.args.net.now c.args.letter.now c.args.low.now c.args.high.now c.args.r (full).0 (full).1 c.requires.laid.0.within.nodes c.requires.laid.1 c.requires.laid.2 in
    let pending = c.least_among-pending.ensures ∙ leasts_among filled.1 c.args.r.changes _ used in (
      c.least.ensures ∙ ap₂ min pending c.scheduled_after-scheduled.ensures ∙ time_is c.args.net.now c.args.letter.now c.args.low.now c.args.high.now c.args.r (full).0 (full).1 c.requires.laid.0.within.nodes c.requires.laid.1 c.requires.laid.2,
      filled.0,
      filled.1,
    )
