-- The arithmetic of document 01's step rules 4 to 7, as document 02's wish 3 amends it: nothing is capped.
use Rattle.std.specs.Prelude.{ℕ, ◌+◌, ◌-◌, ◌*◌, ◌/◌, max, Bool, false, cond, Result, Ok, Err, ltb}
use Rattle.units.specs.declared.Ohms.{Ohms}
use Rattle.units.specs.declared.Femtofarads.{Femtofarads}
use Rattle.units.specs.declared.Picoseconds.{Picoseconds}
use Rattle.units.specs.declared.Resistance.{Resistance}
use Rattle.units.specs.declared.Resistance.TheVariants.{Infinite, Finite}
use Rattle.units.specs.declared.AboveCeiling.{AboveCeiling}
use Rattle.units.specs.Units.{ohms, femtofarads, picoseconds, above_ceiling}

-- a / b, rounded up
unfoldable pub ceil_div : ℕ → ℕ → ℕ
ceil_div a b = (a + (b - 1)) / b

-- Rule 4, by wish 3: the most ohms of a finite result
abbrev pub ceiling : ℕ
ceiling = 1000000000

-- a finite resistance above the ceiling; at the ceiling it is not above it
abbrev pub above : Resistance → Bool
above Infinite = false
above (Finite a) = ltb ceiling a.0

-- what an operation says of its result: the result itself, or that it would exceed the ceiling
abbrev pub bounded : Resistance → Result Resistance AboveCeiling
bounded r = cond (above r) (Err above_ceiling) (Ok r)

-- Rule 4: two resistances in parallel, infinite being neutral
unfoldable pub parallel : Resistance → Resistance → Resistance
parallel Infinite b = b
parallel (Finite a) Infinite = Finite a
parallel (Finite a) (Finite b) = Finite (ohms (ceil_div (a.0 * b.0) (a.0 + b.0)))

-- Rule 4: one side of an arm, a transistor of resistance r before a node sum. `side` is that side of the far node's sum, `other`
-- its other side: an arm's high side is arm_side r high low, its low side arm_side r low high, both of the sum as it was.
unfoldable pub arm_side : Ohms → Resistance → Resistance → Resistance
arm_side r Infinite other = Infinite
arm_side r (Finite side) Infinite = Finite (ohms (side.0 + r.0))
arm_side r (Finite side) (Finite other) = Finite (ohms (side.0 + r.0 + ceil_div (r.0 * side.0) other.0))

-- Rules 4 and 6: charges joined
abbrev pub joined : Femtofarads → Femtofarads → Femtofarads
joined a b = femtofarads (a.0 + b.0)

-- Rule 6: the resistance of an arm of the delay walk: R + r
abbrev pub delay_arm : Ohms → Resistance → Resistance
delay_arm r far = arm_side r far Infinite

-- Rule 6: the share of the far charge C that an arm passes on: C × R / (R + r) rounded up, all of it where R is infinite
unfoldable pub share : Ohms → Resistance → Femtofarads → Femtofarads
share r Infinite c = c
share r (Finite far) c = femtofarads (ceil_div (c.0 * far.0) (far.0 + r.0))

-- Rule 6: the delay of a node with resistance R and charge C
unfoldable pub delay : Ohms → Femtofarads → Picoseconds
delay r c = picoseconds (max 1 (ceil_div (r.0 * c.0) 1000))

-- Rule 7: T and a delay after it
abbrev pub later : Picoseconds → Picoseconds → Picoseconds
later time delay = picoseconds (time.0 + delay.0)
