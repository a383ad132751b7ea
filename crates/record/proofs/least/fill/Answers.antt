use mathlib.Core.Path.{◌≡◌, refl}
use native.Mathlib.Omega.{arith}
use lib.ListN.{length-set}
use Rattle.record.proofs.Leasts.{leasts_next}
use Rattle.record.proofs.least.fill.Goals as goal

pub loop-e-init : goal.loop-e-init
loop-e-init c = (refl, c.requires.leasts)

pub least_at-requires : goal.least_at-requires
least_at-requires c = record { legible = (c.requires.legible.0, c.loop-e-test.true); leasts = c.loop-e.invariant.1 }

pub loop-e-preserved : goal.loop-e-preserved
loop-e-preserved c =
    let l = c.loop-e in
    (simp length-set l.invariant.0, leasts_next l.invariant.1 c.least_at.ensures (omega arith))

pub returns : goal.returns
returns c =
    let l = c.loop-e in
    let done : l.e ≡ c.args.used = omega arith in
    (l.invariant.0, rw done at l.invariant.1)
