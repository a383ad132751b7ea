-- A charge that grew, by no more than some femtofarads: what becomes of a share of it, of charges joined, and of a delay.
use Prim.Native.Nat.{ℕ, ◌+◌, ◌*◌, ◌≤◌}
use native.Mathlib.Nat.{add-mul, mul-add, mul-le-mul_left, mul-le-mul_right}
use native.Mathlib.Omega.{arith}
use Rattle.units.specs.declared.Ohms.{Ohms}
use Rattle.units.specs.declared.Femtofarads.{Femtofarads}
use Rattle.units.specs.declared.Resistance.{Resistance}
use Rattle.units.specs.declared.Resistance.TheVariants.{Infinite, Finite}
use Rattle.units.specs.Rules.{ceil_div, joined, share, delay}
use Rattle.units.proofs.Rounding.{ceil_div_mono, ceil_div_sum, ceil_div_factor}

-- b is a charge of at least a, and of at most so many femtofarads more
pub record Grown (more : ℕ) (a b : Femtofarads) : Type 0 where
  pub least : a.0 ≤ b.0
  pub most : b.0 ≤ a.0 + more

-- charges joined grow by what both do
pub joined_grown : (m n : ℕ) (a b c d : Femtofarads) → Grown m a b → Grown n c d → Grown (m + n) (joined a c) (joined b d)
joined_grown m n a b c d g h = record { least = omega arith; most = omega arith }

-- a share grows with the charge, and by no more than the charge does
pub share_grown : (m : ℕ) (r : Ohms) (far : Resistance) (a b : Femtofarads) → 1 ≤ r.0 → Grown m a b → Grown m (share r far a) (share r far b)
unfolding share
share_grown m r Infinite a b pos g = g
share_grown m r (Finite far) a b pos g =
    let some : 1 ≤ far.0 + r.0 = omega arith in
    let sum : b.0 * far.0 ≤ a.0 * far.0 + m * far.0 = omega (arith, mul-le-mul_right far.0 g.most, add-mul a.0 m far.0) in
    record {
      least = ceil_div_mono some (mul-le-mul_right far.0 g.least);
      most = omega (arith, ceil_div_sum some (a.0 * far.0) (m * far.0) sum, ceil_div_factor m {c = far.0} {b = far.0 + r.0} (omega arith));
    }

-- a delay grows with the charge, and by no more than that of the growth alone, rounded up
pub delay_grown : (m : ℕ) (r : Ohms) (a b : Femtofarads) → Grown m a b → ((delay r a).0 ≤ (delay r b).0) × ((delay r b).0 ≤ (delay r a).0 + ceil_div (r.0 * m) 1000)
unfolding delay
delay_grown m r a b g =
    let some : 1 ≤ 1000 = omega arith in
    let sum : r.0 * b.0 ≤ r.0 * a.0 + r.0 * m = omega (arith, mul-le-mul_left r.0 g.most, mul-add r.0 a.0 m) in
    (omega (arith, ceil_div_mono some (mul-le-mul_left r.0 g.least)), omega (arith, ceil_div_sum some (r.0 * a.0) (r.0 * m) sum))
