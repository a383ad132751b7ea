-- Laws of the arithmetic of step rules 4 to 6. Those of division rounded up stand in Rounding.
use mathlib.Core.Path.{◌≡◌, refl, ap, subst₂}
use mathlib.Core.Bool.{false}
use Prim.Native.Nat.{ℕ, suc, ◌+◌, ◌*◌, ◌-◌, ◌^◌, ◌≤◌, ◌<◌, max}
use native.Mathlib.Nat.{add_comm, mul_comm, mul-pos, le_trans, le_refl}
use native.Mathlib.Omega.{arith}
use borrow.Author.Tests.{ltb-false, le-ltb}
use Rattle.units.specs.declared.Ohms.{Ohms}
use Rattle.units.specs.declared.Femtofarads.{Femtofarads}
use Rattle.units.specs.declared.Resistance.{Resistance}
use Rattle.units.specs.declared.Resistance.TheVariants.{Infinite, Finite}
use Rattle.units.specs.Units.{ohms, femtofarads}
use Rattle.units.specs.Rules.{ceil_div, ceiling, above, parallel, arm_side, delay_arm, share, delay}
use Rattle.units.specs.Range.{AtLeast, AtMost, Positive, Divisible}
use Rattle.units.proofs.Rounding.{ceil_div_least, ceil_div_factor, ceil_div_positive, ceil_div_at_most, product_within}

-- a finite resistance is never infinite
pub finite_not_infinite : {a : Ohms} → Finite a ≡ Infinite → ⊥
finite_not_infinite e = let z : ◌≡◌ {A = ℕ} 0 1 = cc in omega arith

-- the ohms of a finite divisor of a finite resistance
pub divisor_at : {a b : Resistance} {s o : Ohms} → a ≡ Finite s → b ≡ Finite o → Divisible a b → 1 ≤ o.0
divisor_at p q h = subst₂ Divisible p q h

-- every resistance may be divided by an infinite one
pub divisible_infinite : (a : Resistance) → Divisible a Infinite
divisible_infinite Infinite = tt
divisible_infinite (Finite a) = tt

-- by a positive one too
pub divisible_positive : (a b : Resistance) → Positive b → Divisible a b
divisible_positive Infinite b h = tt
divisible_positive (Finite a) b h = h

-- a bound from above may be loosened
pub at_most_weaken : {m n : ℕ} (a : Resistance) → m ≤ n → AtMost m a → AtMost n a
at_most_weaken Infinite h p = p
at_most_weaken (Finite a) h p = le_trans p h

-- in parallel, infinite is neutral on the left
pub parallel_infinite_left : (a : Resistance) → parallel Infinite a ≡ a
unfolding parallel
parallel_infinite_left a = refl

-- and on the right
pub parallel_infinite_right : (a : Resistance) → parallel a Infinite ≡ a
unfolding parallel
parallel_infinite_right Infinite = refl
parallel_infinite_right (Finite a) = refl

-- two in parallel are infinite only where both are
pub parallel_infinite_both : (a b : Resistance) → parallel a b ≡ Infinite → (a ≡ Infinite) × (b ≡ Infinite)
unfolding parallel
parallel_infinite_both Infinite b e = (refl, e)
parallel_infinite_both (Finite a) Infinite e = absurd (finite_not_infinite e)
parallel_infinite_both (Finite a) (Finite b) e = absurd (finite_not_infinite e)

-- beside 0 ohms nothing counts
pub parallel_zero_left : (b : Resistance) → parallel (Finite (ohms 0)) b ≡ Finite (ohms 0)
unfolding parallel
parallel_zero_left Infinite = refl
parallel_zero_left (Finite b) = let z : ceil_div (0 * b.0) (0 + b.0) ≡ 0 = omega (arith, ceil_div_least {a = 0 * b.0} {c = 0} (0 + b.0) (omega arith)) in ap (λ (n : ℕ). Finite (ohms n)) z

-- two in parallel may be exchanged
pub parallel_comm : (a b : Resistance) → parallel a b ≡ parallel b a
unfolding parallel
parallel_comm Infinite Infinite = refl
parallel_comm Infinite (Finite b) = refl
parallel_comm (Finite a) Infinite = refl
parallel_comm (Finite a) (Finite b) = rw (mul_comm a.0 b.0, add_comm a.0 b.0)

-- two in parallel are positive where both are
pub parallel_positive : (a b : Resistance) → Positive a → Positive b → Positive (parallel a b)
unfolding parallel
parallel_positive Infinite b p q = q
parallel_positive (Finite a) Infinite p q = p
parallel_positive (Finite a) (Finite b) p q = ceil_div_positive (omega arith) (mul-pos p q)

-- two in parallel are at most the first, where that is finite
pub parallel_at_most_left : (a : Ohms) (b : Resistance) → AtMost a.0 (parallel (Finite a) b)
unfolding parallel
parallel_at_most_left a Infinite = le_refl a.0
parallel_at_most_left a (Finite b) = ceil_div_factor a.0 (omega arith)

-- and at most the second, where that is finite
pub parallel_at_most_right : (a : Resistance) (b : Ohms) → AtMost b.0 (parallel a (Finite b))
parallel_at_most_right a b = rw (parallel_comm a (Finite b)) (parallel_at_most_left b a)

-- a bound on both is one on the two in parallel
pub parallel_at_most : (n : ℕ) (a b : Resistance) → AtMost n a → AtMost n b → AtMost n (parallel a b)
parallel_at_most n Infinite b p q = rw (parallel_infinite_left b) q
parallel_at_most n (Finite a) b p q = at_most_weaken (parallel (Finite a) b) p (parallel_at_most_left a b)

-- an arm's side is infinite where the far node's is
pub arm_side_infinite : (r : Ohms) (other : Resistance) → arm_side r Infinite other ≡ Infinite
unfolding arm_side
arm_side_infinite r other = refl

-- before a node with no other side, r is added
pub arm_side_series : (r side : Ohms) → arm_side r (Finite side) Infinite ≡ Finite (ohms (side.0 + r.0))
unfolding arm_side
arm_side_series r side = refl

-- where the far node's side is finite the arm's is
pub arm_side_finite : (r side : Ohms) (other : Resistance) → (n : Ohms) × (arm_side r (Finite side) other ≡ Finite n)
unfolding arm_side
arm_side_finite r side Infinite = (_, refl)
arm_side_finite r side (Finite other) = (_, refl)

-- so it is infinite only where the far node's is
pub arm_side_infinite_only : (r : Ohms) (side other : Resistance) → arm_side r side other ≡ Infinite → side ≡ Infinite
unfolding arm_side
arm_side_infinite_only r Infinite other e = refl
arm_side_infinite_only r (Finite side) Infinite e = absurd (finite_not_infinite e)
arm_side_infinite_only r (Finite side) (Finite other) e = absurd (finite_not_infinite e)

-- an arm's side is at least r
pub arm_side_at_least : (n : ℕ) (r : Ohms) (side other : Resistance) → n ≤ r.0 → AtLeast n (arm_side r side other)
unfolding arm_side
arm_side_at_least n r Infinite other h = tt
arm_side_at_least n r (Finite side) Infinite h = omega arith
arm_side_at_least n r (Finite side) (Finite other) h = omega arith

-- what is not above the ceiling is at most the ceiling
pub not_above : (a : Resistance) → above a ≡ false → AtMost ceiling a
not_above Infinite e = tt
not_above (Finite a) e = ltb-false ceiling a.0 e

-- and the other way round
pub at_most_ceiling : (a : Resistance) → AtMost ceiling a → above a ≡ false
at_most_ceiling Infinite h = refl
at_most_ceiling (Finite a) h = le-ltb ceiling a.0 h

-- Which operations can exceed: an arm of the node sum. Two in parallel can't where neither does.
pub parallel_within : (a b : Resistance) → above a ≡ false → above b ≡ false → above (parallel a b) ≡ false
parallel_within a b p q = at_most_ceiling (parallel a b) (parallel_at_most ceiling a b (not_above a p) (not_above b q))

-- Neither can an arm of the delay walk: r of at most m ohms adds no more than m. So n of them in a row stay within n × m.
pub delay_arm_at_most : (m n : ℕ) (r : Ohms) (far : Resistance) → r.0 ≤ m → AtMost (m * n) far → AtMost (m * suc n) (delay_arm r far)
unfolding arm_side
delay_arm_at_most m n r Infinite h p = tt
delay_arm_at_most m n r (Finite far) h p = omega arith

-- all of the charge is passed on where nothing leads to the value
pub share_infinite : (r : Ohms) (c : Femtofarads) → share r Infinite c ≡ c
unfolding share
share_infinite r c = refl

-- none of it where the far node is at the value itself
pub share_zero : (r : Ohms) (c : Femtofarads) → share r (Finite (ohms 0)) c ≡ femtofarads 0
unfolding share
share_zero r c = let z : ceil_div (c.0 * 0) (0 + r.0) ≡ 0 = omega (arith, ceil_div_least {a = c.0 * 0} {c = 0} (0 + r.0) (omega arith)) in ap femtofarads z

-- no more than the charge is passed on
pub share_at_most : (r : Ohms) (far : Resistance) (c : Femtofarads) → (share r far c).0 ≤ c.0
unfolding share
share_at_most r Infinite c = le_refl c.0
share_at_most r (Finite far) c = ceil_div_factor c.0 (omega arith)

-- something of a charge is passed on, unless the far resistance is 0
pub share_positive : (r : Ohms) (far : Resistance) (c : Femtofarads) → Positive far → 1 ≤ c.0 → 1 ≤ (share r far c).0
unfolding share
share_positive r Infinite c p h = h
share_positive r (Finite far) c p h = ceil_div_positive (omega arith) (mul-pos h p)

-- a delay is at least 1
pub delay_positive : (r : Ohms) (c : Femtofarads) → 1 ≤ (delay r c).0
unfolding delay
delay_positive r c = omega arith

-- a delay is at most the product, and 1 where that is 0
pub delay_at_most : (r : Ohms) (c : Femtofarads) → (delay r c).0 ≤ max 1 (r.0 * c.0)
unfolding delay
delay_at_most r c = omega (arith, ceil_div_at_most {b = 1000} (omega arith) (r.0 * c.0))

-- the delay of any ohms and femtofarads of 32 bits
pub delay_within : (r : Ohms) (c : Femtofarads) → r.0 < 2 ^ 32 → c.0 < 2 ^ 32 → (delay r c).0 < 2 ^ 55
unfolding delay
delay_within r c p h =
    omega (arith, ceil_div_least {a = r.0 * c.0} {c = 2 ^ 55 - 1} 1000 (omega (arith, product_within {a = r.0} {b = c.0} (omega arith) h)))
