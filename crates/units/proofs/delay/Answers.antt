-- `delay` is its definition's maximum.
use mathlib.Core.Path.{◌≡◌, ap}
use Prim.Native.Nat.{◌*◌, max}
use native.Mathlib.Omega.{arith}
use Rattle.units.specs.Units.{picoseconds}
use Rattle.units.specs.Rules.{ceil_div, delay}
use Rattle.units.proofs.delay.Goals as goal

pub returns : goal.returns
unfolding delay
returns c =
    let e : c.max.result ≡ max 1 (ceil_div (c.args.r.0 * c.args.charge.0) 1000) = omega (arith, c.scaled.ensures, c.max.ensures) in
    ap picoseconds e
