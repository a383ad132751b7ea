-- Laws of division rounded up, and of the products that are divided.
use Prim.Native.Nat.{ℕ, zero, suc, ◌+◌, ◌-◌, ◌*◌, ◌^◌, ◌≤◌, ◌<◌, zero-le}
use native.Mathlib.Nat.{lt-div-mul-add, div-lt_iff_lt-mul, div-zero, suc-mul, zero-mul, add-mul, mul-le-mul, mul-le-mul_left, le-mul_of_pos_right, lt_of_mul-lt-mul_right, le_trans}
use native.Mathlib.Omega.{arith}
use mathlib.Core.Path.{◌≡◌}
use Rattle.std.specs.Int.{div_ceil}
use Rattle.std.proofs.lemmas.Grind.{div_ceil_times}
use Rattle.units.specs.Rules.{ceil_div}

-- no number that covers the dividend is smaller than the quotient; also where the divisor is 0, the quotient being 0 then
pub ceil_div_least : {a c : ℕ} (b : ℕ) → a ≤ c * b → ceil_div a b ≤ c
unfolding ceil_div
ceil_div_least zero h = rw div-zero zero-le
ceil_div_least {a} {c} (suc b) h =
    omega (arith, (div-lt_iff_lt-mul {k = suc b} {x = a + (suc b - 1)} {y = suc c} (omega arith)).1 (omega (arith, suc-mul c (suc b))))

-- a part of a is at most a
pub ceil_div_factor : (a : ℕ) {c b : ℕ} → c ≤ b → ceil_div (a * c) b ≤ a
ceil_div_factor a {c} {b} h = ceil_div_least b (mul-le-mul_left a h)

module _ {b : ℕ} (pos : 1 ≤ b) where
  -- the quotient covers the dividend
  pub ceil_div_covers : (a : ℕ) → a ≤ ceil_div a b * b
  unfolding ceil_div
  ceil_div_covers a = omega (arith, lt-div-mul-add {a = a + (b - 1)} pos)

  -- it grows with the dividend
  pub ceil_div_mono : {a d : ℕ} → a ≤ d → ceil_div a b ≤ ceil_div d b
  ceil_div_mono {d = d} h = ceil_div_least b (le_trans h (ceil_div_covers d))

  -- it is positive where the dividend is
  pub ceil_div_positive : {a : ℕ} → 1 ≤ a → 1 ≤ ceil_div a b
  ceil_div_positive {a} h = lt_of_mul-lt-mul_right b {m = 0} (omega (arith, ceil_div_covers a, zero-mul b))

  -- it is at most the dividend
  pub ceil_div_at_most : (a : ℕ) → ceil_div a b ≤ a
  ceil_div_at_most a = ceil_div_least b (le-mul_of_pos_right a pos)

  -- that of a sum, or of less, is at most the two together
  pub ceil_div_sum : (a d : ℕ) {e : ℕ} → e ≤ a + d → ceil_div e b ≤ ceil_div a b + ceil_div d b
  ceil_div_sum a d h = ceil_div_least b (omega (arith, ceil_div_covers a, ceil_div_covers d, add-mul (ceil_div a b) (ceil_div d b) b))

  -- the library's `div_ceil` is the same number
  pub div_ceil_same : (a : ℕ) → div_ceil a b ≡ ceil_div a b
  div_ceil_same a =
      let times = div_ceil_times a b pos in
      let least : ceil_div a b ≤ div_ceil a b = ceil_div_least b times.0 in
      let most : div_ceil a b < suc (ceil_div a b) = lt_of_mul-lt-mul_right b (omega (arith, times.1, ceil_div_covers a, suc-mul (ceil_div a b) b)) in
      omega arith

-- the product of two numbers of 32 bits
pub product_within : {a b : ℕ} → a < 2 ^ 32 → b < 2 ^ 32 → a * b ≤ (2 ^ 32 - 1) * (2 ^ 32 - 1)
product_within ha hb = mul-le-mul {n₂ = 2 ^ 32 - 1} {m₂ = 2 ^ 32 - 1} (omega arith) (omega arith)
