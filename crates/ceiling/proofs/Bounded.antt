-- What an operation that is bounded by the ceiling says of its result.
use mathlib.Core.Path.{◌≡◌, refl, sym, ap}
use mathlib.Core.Bool.{Bool, true, false}
use Prim.Native.Nat.{ℕ}
use native.Mathlib.Omega.{arith}
use Rattle.std.specs.Prelude.{Result, Ok, Err}
use Rattle.units.specs.declared.AboveCeiling.{AboveCeiling}
use Rattle.units.specs.declared.Resistance.{Resistance}
use Rattle.units.specs.declared.Resistance.TheVariants.{Infinite}
use Rattle.units.specs.Units.{above_ceiling}
use Rattle.units.specs.Rules.{above, bounded}

within_not_exceeds : {r : Resistance} → ◌≡◌ {A = Result Resistance AboveCeiling} (Ok r) (Err above_ceiling) → ⊥
within_not_exceeds e = let z : ◌≡◌ {A = ℕ} 0 1 = cc in omega arith

-- the result of an operation that gives one
abbrev payload : Result Resistance AboveCeiling → Resistance
payload (Ok r) = r
payload (Err e) = Infinite

-- an operation that says it exceeds has a result above the ceiling
pub bounded_exceeds : (r : Resistance) → bounded r ≡ Err above_ceiling → above r ≡ true
bounded_exceeds r e = by (above r) refl
  where
    by : (b : Bool) → above r ≡ b → above r ≡ true
    by true p = p
    by false p = let z : ◌≡◌ {A = Result Resistance AboveCeiling} (Ok r) (Err above_ceiling) = rw p at e in absurd (within_not_exceeds z)

-- one that gives a result gives its own, which is not above the ceiling
pub bounded_within : (r : Resistance) {x : Resistance} → bounded r ≡ Ok x → (x ≡ r) × (above r ≡ false)
bounded_within r {x} e = by (above r) refl
  where
    by : (b : Bool) → above r ≡ b → (x ≡ r) × (above r ≡ false)
    by true p = let z : ◌≡◌ {A = Result Resistance AboveCeiling} (Err above_ceiling) (Ok x) = rw p at e in absurd (within_not_exceeds (sym z))
    by false p = let z : ◌≡◌ {A = Result Resistance AboveCeiling} (Ok r) (Ok x) = rw p at e in (sym (ap payload z), p)
