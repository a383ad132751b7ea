-- Laws of a number's decimal digits.
use mathlib.Core.Path.{◌≡◌, refl, sym, ◌∙◌, ap}
use mathlib.Core.Logic.{⊎_elim}
use mathlib.Core.List.{List, [], ◌∷◌, ◌++◌}
use Prim.Native.Nat.{ℕ, zero, suc, ◌+◌, ◌/◌, ◌%◌, ◌^◌, ◌<◌, ◌≤◌}
use native.Mathlib.Nat.{pow-suc}
use native.Mathlib.Omega.{arith}
use lib.ListN.{length, length-append}
use borrow.Author.Tests.{lt-ltb, le-ltb}
use Rattle.lists.proofs.Cases.{lt_or_ge}
use Rattle.text.specs.Decimal.{digits_within, decimal}

within_digit : (k n : ℕ) → n < 10 → digits_within (suc k) n ≡ (48 + n) ∷ []
unfolding digits_within
within_digit k n h = rw (lt-ltb n 10 h)

within_more : (k n : ℕ) → 10 ≤ n → digits_within (suc k) n ≡ digits_within k (n / 10) ++ (48 + n % 10) ∷ []
unfolding digits_within
within_more k n h = rw (le-ltb n 10 h)

-- the allowance does not matter once it is enough
pub within_enough : (j k n : ℕ) → n < j → n < k → digits_within j n ≡ digits_within k n
within_enough zero k n h g = absurd (omega arith)
within_enough (suc j) zero n h g = absurd (omega arith)
within_enough (suc j) (suc k) n h g =
    ⊎_elim
    (λ (s : n < 10). within_digit j n s ∙ sym (within_digit k n s))
    (λ (s : 10 ≤ n). within_more j n s ∙ ap (λ (l : List ℕ). l ++ (48 + n % 10) ∷ []) (within_enough j k (n / 10) (omega arith) (omega arith)) ∙ sym (within_more k n s))
    (lt_or_ge n 10)

-- one digit
pub decimal_digit : (n : ℕ) → n < 10 → decimal n ≡ (48 + n) ∷ []
unfolding decimal
decimal_digit n h = within_digit n n h

-- the last digit stands behind the others
pub decimal_more : (n : ℕ) → 10 ≤ n → decimal n ≡ decimal (n / 10) ++ (48 + n % 10) ∷ []
unfolding decimal
decimal_more n h =
    within_more n n h ∙ ap (λ (l : List ℕ). l ++ (48 + n % 10) ∷ []) (within_enough n (suc (n / 10)) (n / 10) (omega arith) (omega arith))

-- and adds one to their count
pub decimal_count : (n : ℕ) → 10 ≤ n → length (decimal n) ≡ length (decimal (n / 10)) + 1
decimal_count n h = ap length (decimal_more n h) ∙ length-append (decimal (n / 10)) ((48 + n % 10) ∷ [])

-- a number below a power of ten has no more digits than it
pub decimal_within : (k n : ℕ) → n < 10 ^ suc k → length (decimal n) ≤ suc k
decimal_within zero n h =
    let g : n < 10 = omega (arith, pow-suc 10 0) in
    omega (arith, ap length (decimal_digit n g))
decimal_within (suc k) n h =
    ⊎_elim
    (λ (s : n < 10). omega (arith, ap length (decimal_digit n s)))
    (λ (s : 10 ≤ n).
    let g : n / 10 < 10 ^ suc k = omega (arith, pow-suc 10 (suc k)) in
    omega (arith, decimal_count n s, decimal_within k (n / 10) g))
    (lt_or_ge n 10)

-- ten digits are enough for 32 bits, and twenty for 64
pub decimal_short : (n : ℕ) → n < 2 ^ 32 → length (decimal n) ≤ 10
decimal_short n h = decimal_within 9 n (omega arith)

pub decimal_long : (n : ℕ) → n < 2 ^ 64 → length (decimal n) ≤ 20
decimal_long n h = decimal_within 19 n (omega arith)

-- as many steps as the number has digits are enough
pub within_digits : (k n : ℕ) → n < 10 ^ suc k → digits_within (suc k) n ≡ decimal n
within_digits zero n h =
    let g : n < 10 = omega (arith, pow-suc 10 0) in
    within_digit 0 n g ∙ sym (decimal_digit n g)
within_digits (suc k) n h =
    ⊎_elim
    (λ (s : n < 10). within_digit (suc k) n s ∙ sym (decimal_digit n s))
    (λ (s : 10 ≤ n).
    let g : n / 10 < 10 ^ suc k = omega (arith, pow-suc 10 (suc k)) in
    within_more (suc k) n s ∙ ap (λ (l : List ℕ). l ++ (48 + n % 10) ∷ []) (within_digits k (n / 10) g) ∙ sym (decimal_more n s))
    (lt_or_ge n 10)

-- worked values
zero_is : decimal 0 ≡ 48 ∷ []
unfolding decimal digits_within
zero_is = refl

seven_is : decimal 7 ≡ 55 ∷ []
unfolding decimal digits_within
seven_is = refl

ten_is : decimal 10 ≡ 49 ∷ 48 ∷ []
unfolding decimal digits_within
ten_is = refl

million_is : decimal 1000000 ≡ 49 ∷ 48 ∷ 48 ∷ 48 ∷ 48 ∷ 48 ∷ 48 ∷ []
unfolding digits_within
million_is = sym (within_digits 6 1000000 (omega arith))

largest_is : decimal 4294967295 ≡ 52 ∷ 50 ∷ 57 ∷ 52 ∷ 57 ∷ 54 ∷ 55 ∷ 50 ∷ 57 ∷ 53 ∷ []
unfolding digits_within
largest_is = sym (within_digits 9 4294967295 (omega arith))
