-- `times_only`: the least of the next changes is 0 where one of them is.
use mathlib.Core.Path.{◌≡◌, ◌∙◌, ap}
use mathlib.Core.Bool.{not}
use Prim.Native.Nat.{ℕ}
use lib.Dec.{eqb}
use native.Mathlib.Omega.{arith}
use Rattle.diagram.specs.Held.{held}
use Rattle.net.specs.Net.{nodes_place, letters_place, at}
use Rattle.record.specs.Numbers.{least_among}
use Rattle.record.proofs.Leasts.{leasts_among}
use Rattle.admit.proofs.times_only.Goals as goal

pub fill-requires : goal.fill-requires
fill-requires c = record { legible = (c.requires.1, c.requires.2.first, c.requires.2.room); leasts = c.requires.2.leasts }

pub least_among-requires : goal.least_among-requires
least_among-requires c =
    let filled = c.fill.ensures in
    (c.requires.0.within.nodes, λ i l. omega (arith, c.requires.2.changes i l, c.requires.2.room, filled.0))

pub shape_of-least : goal.shape_of-least
shape_of-least c = omega (arith, c.fill.ensures.0)

pub returns : goal.returns
returns c =
    let least_is : c.least_among.result ≡ least_among (at c.args.net.now letters_place) (held c.args.letter.now c.args.low.now c.args.high.now c.args.run.used) c.args.run.changes (at c.args.net.now nodes_place) = (c.least_among.ensures ∙ leasts_among c.fill.ensures.1 c.args.run.changes (at c.args.net.now nodes_place) c.requires.2.changes) in
    let filled = c.fill.ensures in
    record { is = ap (λ (x : ℕ). not (eqb x 0)) (least_is); long = filled.0; leasts = filled.1 }
