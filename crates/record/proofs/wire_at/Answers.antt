-- `wire_at` meets its contract: a rail's value is its number, and a node record's stand at its place. Assumes nothing.
use borrow.Author.Rules.{rules}
use mathlib.Core.Path.{◌≡◌, ◌∙◌}
use lib.ListN.{length}
use Prim.Native.Nat.{◌-◌}
use native.Mathlib.Omega.{arith}
use borrow.Author.Tests.{lt-ltb}
use Rattle.net.specs.Net.{net_circuit}
use Rattle.record.proofs.Read.{value_used, change_used, value_is, change_is}
use Rattle.record.proofs.wire_at.Goals as goal

pub returns-then-n-lt2 : goal.returns-then-n-lt2
returns-then-n-lt2 c = (rw (lt-ltb _ _ c.if-n-lt2.true), rw (lt-ltb _ _ c.if-n-lt2.true))

pub number-value-requires : goal.number-value-requires
unfolding net_circuit
number-value-requires c =
    let full : (length c.args.r.values ≡ 24) × (length c.args.r.changes ≡ 24) = ((search rules, search rules)) in
    (c.requires.1, value_used c.args.net.now c.args.letter.now c.args.low.now c.args.high.now c.args.r (full).0 (full).1 c.requires.0.within.nodes c.requires.1 c.requires.2 (c.args.n - 2) (omega arith))

pub number-change-requires : goal.number-change-requires
unfolding net_circuit
number-change-requires c =
    let full : (length c.args.r.values ≡ 24) × (length c.args.r.changes ≡ 24) = ((search rules, search rules)) in
    (c.requires.1, change_used c.args.net.now c.args.letter.now c.args.low.now c.args.high.now c.args.r (full).0 (full).1 c.requires.0.within.nodes c.requires.1 c.requires.2 (c.args.n - 2) (omega arith))

pub returns : goal.returns
unfolding net_circuit
returns c =
    let full : (length c.args.r.values ≡ 24) × (length c.args.r.changes ≡ 24) = ((search rules, search rules)) in (
      c.number-value.ensures ∙ value_is c.args.net.now c.args.letter.now c.args.low.now c.args.high.now c.args.r (full).0 (full).1 c.requires.0.within.nodes c.requires.1 c.requires.2 c.args.n c.args.p (omega arith) (omega arith),
      c.number-change.ensures ∙ change_is c.args.net.now c.args.letter.now c.args.low.now c.args.high.now c.args.r (full).0 (full).1 c.requires.0.within.nodes c.requires.1 c.requires.2 c.args.n c.args.p (omega arith) (omega arith),
    )
