-- A fixed pattern seen from a later letter on.
use mathlib.Core.Path.{◌≡◌, sym, ◌∙◌, ap, ap₂}
use Prim.Native.Nat.{ℕ, zero, suc, ◌+◌, ◌*◌, ◌/◌, ◌%◌, ◌^◌, ◌≤◌}
use native.Mathlib.Nat.{div-one, div-div-eq-div-mul, pow-suc}
use native.Mathlib.Omega.{arith}
use Rattle.format.specs.Fixing.{Setting, free, low, high, Fixing}
use Rattle.diagram.proofs.Pattern.{with_zero, with_suc}
use Rattle.commute.specs.Demand.{set_letter, fixed_pattern}
use Rattle.commute.proofs.Fixed.{set_bit}

-- the fixing of the letters after the first
abbrev pub later : Fixing → Fixing
later φ k = φ (suc k)

-- the fixing of the letters from letter k on
abbrev pub later_by : ℕ → Fixing → Fixing
later_by zero φ = φ
later_by (suc k) φ = later (later_by k φ)

-- a bit that is set stays one
pub set_bit_le : (s : Setting) (b : ℕ) → b ≤ 1 → set_bit s b ≤ 1
set_bit_le free b h = h
set_bit_le low b h = omega arith
set_bit_le high b h = omega arith

set_zero : (s : Setting) (p : ℕ) → set_letter s 0 p ≡ 2 * (p / 2) + set_bit s (p % 2)
set_zero free p = omega arith
set_zero low p = with_zero 0 p
set_zero high p = with_zero 1 p

set_suc : (s : Setting) (k p : ℕ) → set_letter s (suc k) p ≡ 2 * set_letter s k (p / 2) + p % 2
set_suc free k p = omega arith
set_suc low k p = with_suc k 0 p
set_suc high k p = with_suc k 1 p

-- a number of a half and a bit, taken apart
half_of : (r b : ℕ) → b ≤ 1 → (2 * r + b) / 2 ≡ r
half_of r b h = omega arith

bit_of : (r b : ℕ) → b ≤ 1 → (2 * r + b) % 2 ≡ b
bit_of r b h = omega arith

-- the first letter is set, and the others in the half
pub fixed_step : (φ : Fixing) (n q : ℕ) → fixed_pattern φ (suc n) q ≡ 2 * fixed_pattern (later φ) n (q / 2) + set_bit (φ 0) (q % 2)
unfolding fixed_pattern
fixed_step φ zero q = set_zero (φ 0) q
fixed_step φ (suc n) q =
    let p : ℕ = fixed_pattern φ (suc n) q in
    let r : ℕ = fixed_pattern (later φ) n (q / 2) in
    let b : ℕ = set_bit (φ 0) (q % 2) in
    let one : b ≤ 1 = set_bit_le (φ 0) (q % 2) (omega arith) in
    let e : p ≡ 2 * r + b = fixed_step φ n q in
    let half : p / 2 ≡ r = ap (λ (x : ℕ). x / 2) e ∙ half_of r b one in
    let bit : p % 2 ≡ b = ap (λ (x : ℕ). x % 2) e ∙ bit_of r b one in
    set_suc (φ (suc n)) n p ∙ ap₂ (λ (x y : ℕ). 2 * set_letter (φ (suc n)) n x + y) half bit

-- the even and the odd patterns
pub fixed_even : (φ : Fixing) (n q : ℕ) → fixed_pattern φ (suc n) (2 * q) ≡ 2 * fixed_pattern (later φ) n q + set_bit (φ 0) 0
fixed_even φ n q =
    let half : 2 * q / 2 ≡ q = omega arith in
    let bit : 2 * q % 2 ≡ 0 = omega arith in
    fixed_step φ n (2 * q) ∙ ap₂ (λ (x y : ℕ). 2 * fixed_pattern (later φ) n x + set_bit (φ 0) y) half bit

pub fixed_odd : (φ : Fixing) (n q : ℕ) → fixed_pattern φ (suc n) (2 * q + 1) ≡ 2 * fixed_pattern (later φ) n q + set_bit (φ 0) 1
fixed_odd φ n q =
    let half : (2 * q + 1) / 2 ≡ q = omega arith in
    let bit : (2 * q + 1) % 2 ≡ 1 = omega arith in
    fixed_step φ n (2 * q + 1) ∙ ap₂ (λ (x y : ℕ). 2 * fixed_pattern (later φ) n x + set_bit (φ 0) y) half bit

-- the letters from letter k on
fixed_shift : (φ : Fixing) (k n q : ℕ) → fixed_pattern φ (k + n) q / 2 ^ k ≡ fixed_pattern (later_by k φ) n (q / 2 ^ k)
fixed_shift φ zero n q =
    let e : zero + n ≡ n = omega arith in
    rw (e, div-one (fixed_pattern φ n q), div-one q)
fixed_shift φ (suc k) n q =
    let e : suc k + n ≡ k + suc n = omega arith in
    let x : ℕ = fixed_pattern φ (k + suc n) q in
    let ψ : Fixing = later_by k φ in
    let half : (y : ℕ) → y / 2 ^ suc k ≡ y / 2 ^ k / 2 = λ y. ap (λ (d : ℕ). y / d) (pow-suc 2 k) ∙ sym (div-div-eq-div-mul y (2 ^ k) 2) in
    ap (λ (m : ℕ). fixed_pattern φ m q / 2 ^ suc k) e
    ∙ half x
    ∙ ap (λ (y : ℕ). y / 2) (fixed_shift φ k (suc n) q ∙ fixed_step ψ n (q / 2 ^ k))
    ∙ half_of (fixed_pattern (later ψ) n (q / 2 ^ k / 2)) (set_bit (ψ 0) (q / 2 ^ k % 2)) (set_bit_le (ψ 0) (q / 2 ^ k % 2) (omega arith))
    ∙ ap (fixed_pattern (later ψ) n) (sym (half q))

pub fixed_from_lem : (φ : Fixing) (letters n k q : ℕ) → n + k ≡ letters → fixed_pattern φ letters q / 2 ^ k ≡ fixed_pattern (later_by k φ) n (q / 2 ^ k)
fixed_from_lem φ letters n k q sum =
    let e : letters ≡ k + n = omega arith in
    ap (λ (m : ℕ). fixed_pattern φ m q / 2 ^ k) e ∙ fixed_shift φ k n q

-- the first letter at 0 and at 1, where it ends low and where it ends high
module _ (φ : Fixing) (n q : ℕ) where
  pub even_low : set_bit (φ 0) 0 ≡ 0 → fixed_pattern φ (suc n) (2 * q) ≡ 2 * fixed_pattern (later φ) n q
  even_low e = omega (arith, fixed_even φ n q)

  pub even_high : set_bit (φ 0) 0 ≡ 1 → fixed_pattern φ (suc n) (2 * q) ≡ 2 * fixed_pattern (later φ) n q + 1
  even_high e = omega (arith, fixed_even φ n q)

  pub odd_low : set_bit (φ 0) 1 ≡ 0 → fixed_pattern φ (suc n) (2 * q + 1) ≡ 2 * fixed_pattern (later φ) n q
  odd_low e = omega (arith, fixed_odd φ n q)

  pub odd_high : set_bit (φ 0) 1 ≡ 1 → fixed_pattern φ (suc n) (2 * q + 1) ≡ 2 * fixed_pattern (later φ) n q + 1
  odd_high e = omega (arith, fixed_odd φ n q)
