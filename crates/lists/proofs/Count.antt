-- Laws of the count of the numbers below a bound that pass a test.
use mathlib.Core.Path.{◌≡◌, refl}
use mathlib.Core.Bool.{Bool, true, false, cond}
use Prim.Native.Nat.{ℕ, zero, suc, ◌+◌, ◌*◌, ◌<◌, ◌≤◌}
use native.Mathlib.Omega.{arith}
use lib.Dec.{eqb}
use Rattle.lists.specs.Tests.{count_below}

-- equal tests below the bound give equal counts
pub count_ext : (n : ℕ) (f g : ℕ → Bool) → ((i : ℕ) → i < n → f i ≡ g i) → count_below n f ≡ count_below n g
unfolding count_below
count_ext zero f g h = refl
count_ext (suc n) f g h = rw (count_ext n f g (λ i l. h i (omega arith)), h n (omega arith))

-- where all pass, the count is the bound
pub count_all : (n : ℕ) (f : ℕ → Bool) → ((i : ℕ) → i < n → f i ≡ true) → count_below n f ≡ n
unfolding count_below
count_all zero f h = refl
count_all (suc n) f h = rw (count_all n f (λ i l. h i (omega arith)), h n (omega arith)) (omega arith)

-- where none passes, it is nothing
pub count_none : (n : ℕ) (f : ℕ → Bool) → ((i : ℕ) → i < n → f i ≡ false) → count_below n f ≡ 0
unfolding count_below
count_none zero f h = refl
count_none (suc n) f h = rw (count_none n f (λ i l. h i (omega arith)), h n (omega arith))

-- one test counts at most one
pub cond_le : (x : Bool) → cond x 1 0 ≤ 1
cond_le true = omega arith
cond_le false = omega arith

-- and one exactly where it passes
pub cond_one : (x : Bool) → eqb (cond x 1 0) 1 ≡ x
cond_one true = refl
cond_one false = refl

-- the count is at most the bound
pub count_le : (n : ℕ) (f : ℕ → Bool) → count_below n f ≤ n
unfolding count_below
count_le zero f = omega arith
count_le (suc n) f = omega (arith, count_le n f, cond_le (f n))

-- the even numbers and the odd ones
pub count_halves : (n : ℕ) (f : ℕ → Bool) → count_below (2 * n) f ≡ count_below n (λ q. f (2 * q)) + count_below n (λ q. f (2 * q + 1))
unfolding count_below
count_halves zero f = refl
count_halves (suc n) f =
    let e : 2 * suc n ≡ suc (suc (2 * n)) = omega arith in
    let o : suc (2 * n) ≡ 2 * n + 1 = omega arith in
    rw (e, o, count_halves n f) (omega arith)
