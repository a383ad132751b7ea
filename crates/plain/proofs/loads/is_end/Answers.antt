-- `is_end` looks at the value only where charge is shared.
use mathlib.Core.Path.{sym, ◌∙◌, ap}
use Prim.Native.Nat.{ℕ}
use native.Mathlib.Omega.{arith}
use lib.Dec.{eqb}
use Rattle.plain.proofs.Walks.{value_here}
use Rattle.plain.proofs.loads.is_end.Goals as goal

pub is_driven-requires : goal.is_driven-requires
is_driven-requires c = record { net = c.requires.ready.cell; n_bound = c.requires.n_bound }

pub returns-then-is_driven : goal.returns-then-is_driven
returns-then-is_driven c = rw (sym c.is_driven.ensures ∙ c.if-is_driven.true)

pub read-requires : goal.read-requires
read-requires c = omega (arith, c.requires.ready.numbers.long, c.requires.ready.cell.within.nodes, c.requires.n_bound)

pub returns-then-sharing : goal.returns-then-sharing
returns-then-sharing c =
    rw (sym c.is_driven.ensures ∙ c.if-is_driven.false, c.if-sharing.true)
    (ap (λ (v : ℕ). eqb v c.args.new) (c.read.ensures ∙ sym (value_here c.args.net.now c.args.leaf.now c.requires.ready c.args.n c.requires.n_bound)))

pub returns : goal.returns
returns c = rw (sym c.is_driven.ensures ∙ c.if-is_driven.false, c.if-sharing.false)
