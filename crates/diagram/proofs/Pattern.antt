-- The letters of a pattern, and a pattern with one letter set.
use mathlib.Core.Path.{◌≡◌, refl, sym, ◌∙◌, ap}
use Prim.Native.Nat.{ℕ, zero, suc, ◌+◌, ◌*◌, ◌/◌, ◌%◌, ◌^◌, ◌<◌, ◌≤◌}
use native.Mathlib.Nat.{div-one, div-div-eq-div-mul, pow-succ', mod-le, mul-le-mul_right, div-mul-le_self}
use native.Mathlib.Omega.{arith}
use Rattle.diagram.specs.Pattern.{patterns, letter_at, with_letter}

-- letter 0 is the lowest bit
pub letter_zero : (p : ℕ) → letter_at 0 p ≡ p % 2
letter_zero p = ap (λ (q : ℕ). q % 2) (div-one p)

-- a later letter is a letter of the half
pub letter_suc : (k p : ℕ) → letter_at (suc k) p ≡ letter_at k (p / 2)
letter_suc k p = ap (λ (d : ℕ). p / d % 2) (pow-succ' 2 k) ∙ ap (λ (q : ℕ). q % 2) (sym (div-div-eq-div-mul p 2 (2 ^ k)))

-- a pattern is its letters
pub pattern_ext : (n p q : ℕ) → p < 2 ^ n → q < 2 ^ n → ((k : ℕ) → k < n → letter_at k p ≡ letter_at k q) → p ≡ q
pattern_ext zero p q hp hq same = omega arith
pattern_ext (suc n) p q hp hq same =
    let two : 2 ^ suc n ≡ 2 * 2 ^ n = pow-succ' 2 n in
    let low : p % 2 ≡ q % 2 = sym (letter_zero p) ∙ same 0 (omega arith) ∙ letter_zero q in
    let half : p / 2 ≡ q / 2 =
    pattern_ext n (p / 2) (q / 2) (omega arith) (omega arith) (λ k h. sym (letter_suc k p) ∙ same (suc k) (omega arith) ∙ letter_suc k q) in
    omega arith

-- a letter's share of a pattern
letter_share : (k p : ℕ) → letter_at k p * 2 ^ k ≤ p
letter_share k p = omega (arith, mul-le-mul_right (2 ^ k) (mod-le (p / 2 ^ k) 2), div-mul-le_self p (2 ^ k))

-- letter 0 set
pub with_zero : (bit p : ℕ) → with_letter 0 bit p ≡ 2 * (p / 2) + bit
with_zero bit p = let low : letter_at 0 p ≡ p % 2 = letter_zero p in omega arith

-- a later letter set, by the half
pub with_suc : (k bit p : ℕ) → with_letter (suc k) bit p ≡ 2 * with_letter k bit (p / 2) + p % 2
with_suc k bit p =
    let two : 2 ^ suc k ≡ 2 * 2 ^ k = pow-succ' 2 k in
    rw (letter_suc k p, two) (omega (arith, letter_share k (p / 2)))

-- a letter set leaves a pattern of the same letters
pub with_lt : (letters k bit p : ℕ) → p < patterns letters → k < letters → bit ≤ 1 → with_letter k bit p < patterns letters
with_lt zero k bit p h small one = absurd (omega arith)
with_lt (suc letters) zero bit p h small one =
    let two : 2 ^ suc letters ≡ 2 * 2 ^ letters = pow-succ' 2 letters in
    rw with_zero (omega arith)
with_lt (suc letters) (suc k) bit p h small one =
    let two : 2 ^ suc letters ≡ 2 * 2 ^ letters = pow-succ' 2 letters in
    let deeper : with_letter k bit (p / 2) < patterns letters = with_lt letters k bit (p / 2) (omega arith) (omega arith) one in
    rw with_suc (omega arith)

-- the letter is set
pub with_same : (k bit p : ℕ) → bit ≤ 1 → letter_at k (with_letter k bit p) ≡ bit
with_same zero bit p one = letter_zero (with_letter 0 bit p) ∙ rw with_zero (omega arith)
with_same (suc k) bit p one =
    let half : with_letter (suc k) bit p / 2 ≡ with_letter k bit (p / 2) = rw with_suc (omega arith) in
    letter_suc k (with_letter (suc k) bit p) ∙ ap (letter_at k) half ∙ with_same k bit (p / 2) one

-- the others are kept
pub with_other : (j k bit p : ℕ) → bit ≤ 1 → (j ≡ k → ⊥) → letter_at j (with_letter k bit p) ≡ letter_at j p
with_other zero zero bit p one ne = absurd (ne refl)
with_other zero (suc k) bit p one ne = letter_zero (with_letter (suc k) bit p) ∙ rw with_suc (omega arith) ∙ sym (letter_zero p)
with_other (suc j) zero bit p one ne =
    let half : with_letter 0 bit p / 2 ≡ p / 2 = rw with_zero (omega arith) in
    letter_suc j (with_letter 0 bit p) ∙ ap (letter_at j) half ∙ sym (letter_suc j p)
with_other (suc j) (suc k) bit p one ne =
    let half : with_letter (suc k) bit p / 2 ≡ with_letter k bit (p / 2) = rw with_suc (omega arith) in
    letter_suc j (with_letter (suc k) bit p) ∙ ap (letter_at j) half ∙ with_other j k bit (p / 2) one (λ e. ne (ap suc e)) ∙ sym (letter_suc j p)

-- the pattern past the letter is kept
pub with_beyond : (k bit p : ℕ) → bit ≤ 1 → with_letter k bit p / 2 ^ suc k ≡ p / 2 ^ suc k
with_beyond zero bit p one = rw with_zero (omega arith)
with_beyond (suc k) bit p one =
    let half : with_letter (suc k) bit p / 2 ≡ with_letter k bit (p / 2) = rw with_suc (omega arith) in
    let halve : (q : ℕ) → q / 2 ^ suc (suc k) ≡ q / 2 / 2 ^ suc k = λ q. ap (λ (d : ℕ). q / d) (pow-succ' 2 (suc k)) ∙ sym (div-div-eq-div-mul q 2 (2 ^ suc k)) in
    halve (with_letter (suc k) bit p) ∙ ap (λ (q : ℕ). q / 2 ^ suc k) half ∙ with_beyond k bit (p / 2) one ∙ sym (halve p)
