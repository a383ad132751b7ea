-- Worked cases: antt computes both sides.
use mathlib.Core.Path.{◌≡◌, refl}
use Prim.Native.Nat.{◌-◌, ◌^◌, ◌<◌}
use native.Mathlib.Omega.{arith}
use Rattle.units.specs.declared.Resistance.TheVariants.{Infinite, Finite}
use Rattle.units.specs.Units.{ohms, femtofarads, picoseconds, above_ceiling}
use Rattle.std.specs.Prelude.{Ok, Err}
use Rattle.units.specs.Rules.{ceil_div, ceiling, bounded, parallel, arm_side, delay}

-- (a): two of 1 ohm, rounded up
pub case_a : parallel (Finite (ohms 1)) (Finite (ohms 1)) ≡ Finite (ohms 1)
unfolding parallel ceil_div
case_a = refl

-- (b): three of 1000 ohm in turn
pub case_b : (parallel (Finite (ohms 1000)) (Finite (ohms 1000)) ≡ Finite (ohms 500)) × (parallel (Finite (ohms 500)) (Finite (ohms 1000)) ≡ Finite (ohms 334))
unfolding parallel ceil_div
case_b = (refl, refl)

-- an arm's side of exactly the ceiling is answered; one more ohm exceeds
pub case_ceiling : (bounded (arm_side (ohms 1) (Finite (ohms (ceiling - 1))) Infinite) ≡ Ok (Finite (ohms ceiling))) × (bounded (arm_side (ohms 1) (Finite (ohms ceiling)) Infinite) ≡ Err above_ceiling)
unfolding arm_side
case_ceiling = (refl, refl)

-- infinite does not
pub case_infinite : bounded (arm_side (ohms 1) Infinite (Finite (ohms ceiling))) ≡ Ok Infinite
unfolding arm_side
case_infinite = refl

-- 24 transistors of 240,000 ohm in a row and 24 nodes of 65,535 fF: the delay does not fit 32 bits
pub case_long_delay : (delay (ohms 5760000) (femtofarads 1572840) ≡ picoseconds 9059558400) × (2 ^ 32 < 9059558400)
unfolding delay ceil_div
case_long_delay = (refl, omega arith)
