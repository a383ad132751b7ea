-- `by_number` meets its contract: the node records' entries are copied behind the rails'. Assumes nothing.
use borrow.Author.Rules.{rules}
use mathlib.Core.Path.{◌≡◌}
use Prim.Native.Nat.{◌+◌, ◌-◌}
use native.Mathlib.Omega.{arith}
use Rattle.moment.proofs.Places.{by_places}
use Rattle.moment.proofs.by_number.Goals as goal

pub returns : goal.returns
returns c =
    let many : 2 + c.args.count - 2 ≡ c.args.count = omega arith in
    rw many (by_places c.args.low c.args.supply c.args.count c.args.entries c.copy_from_slice.new.self (search rules) c.requires c.copy_from_slice.ensures.after)
