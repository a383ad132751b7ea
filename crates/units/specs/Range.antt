-- Bounds on the ohms of a resistance. An infinite one has none, and so meets every bound.
use Rattle.std.specs.Prelude.{ℕ, ◌≤◌}
use Rattle.units.specs.declared.Resistance.{Resistance}
use Rattle.units.specs.declared.Resistance.TheVariants.{Infinite, Finite}

abbrev pub AtLeast : ℕ → Resistance → Type 0
AtLeast n Infinite = Unit
AtLeast n (Finite a) = n ≤ a.0

abbrev pub AtMost : ℕ → Resistance → Type 0
AtMost n Infinite = Unit
AtMost n (Finite a) = a.0 ≤ n

-- not 0 ohms
abbrev pub Positive : Resistance → Type 0
Positive r = AtLeast 1 r

-- a resistance may be divided by another: it is infinite, or the other is not 0 ohms
abbrev pub Divisible : Resistance → Resistance → Type 0
Divisible Infinite other = Unit
Divisible (Finite a) other = Positive other
