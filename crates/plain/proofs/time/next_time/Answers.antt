-- `next_time`: the earlier of the two.
use mathlib.Core.Path.{◌≡◌, ◌∙◌, ap₂}
use Prim.Native.Nat.{min}
use lib.ListN.{length}
use Rattle.rules.specs.Run.{pattern_time}
use borrow.Author.Rules.{rules}
use Rattle.plain.proofs.time.next_time.Goals as goal

pub soonest_change-pending-requires : goal.soonest_change-pending-requires
soonest_change-pending-requires c =
    let full : length c.args.s.changes ≡ 26 = (search rules) in
    (c.requires, full)

pub soonest_entry-scheduled-requires : goal.soonest_entry-scheduled-requires
soonest_entry-scheduled-requires c = c.requires

pub returns : goal.returns
unfolding pattern_time
returns c = c.min.ensures ∙ ap₂ min c.soonest_change-pending.ensures c.soonest_entry-scheduled.ensures
