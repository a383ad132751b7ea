-- `is_driven` reads the role at its place.
use mathlib.Core.Path.{sym, ◌∙◌, ap}
use Prim.Native.Nat.{ℕ}
use lib.Dec.{eqb}
use Rattle.plain.proofs.Cell.{rail_driven, node_driven}
use Rattle.plain.proofs.reads.is_driven.Goals as goal

pub returns-then-n-lt2 : goal.returns-then-n-lt2
returns-then-n-lt2 c = sym (rail_driven c.args.net.now c.args.n c.if-n-lt2.true)

pub returns : goal.returns
returns c = ap (λ (r : ℕ). eqb r 1) c.read.ensures ∙ sym (node_driven c.args.net.now c.args.n c.if-n-lt2.false c.requires.n_bound)
