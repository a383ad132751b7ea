-- Laws of the least number below a bound.
use mathlib.Core.Path.{◌≡◌, refl, sym, ◌∙◌, ap, ap₂}
use mathlib.Core.List.{List, [], ◌∷◌}
use Prim.Native.Nat.{ℕ, zero, suc, ◌+◌, ◌<◌, ◌≤◌, min}
use native.Mathlib.Numerals.{add-one}
use native.Mathlib.Omega.{arith}
use lib.ListN.{length, get_or}
use Rattle.diagram.specs.Table.{never}
use Rattle.rules.specs.Run.{soonest, least_below}
use Rattle.rules.proofs.Time.{least_own, least_same}
use Rattle.record.specs.Numbers.{after_now}

-- it is at most never
pub least_never : (n : ℕ) (f : ℕ → ℕ) → least_below n f ≤ never
unfolding least_below
least_never zero f = omega arith
least_never (suc n) f = omega (arith, least_never n f)

-- and at least what each number is at least
pub least_greatest : (n : ℕ) (f : ℕ → ℕ) (m : ℕ) → m ≤ never → ((k : ℕ) → k < n → m ≤ f k) → m ≤ least_below n f
unfolding least_below
least_greatest zero f m top h = top
least_greatest (suc n) f m top h = omega (arith, least_greatest n f m top (λ k l. h k (omega arith)), h n (omega arith))

-- nothing yet
pub least_none : (f : ℕ → ℕ) → least_below 0 f ≡ never
unfolding least_below
least_none f = refl

-- one more number
pub least_next : (n : ℕ) (f : ℕ → ℕ) → least_below (n + 1) f ≡ min (least_below n f) (f n)
unfolding least_below
least_next n f = rw add-one

-- one more in a loop
pub least_loop : {least one next : ℕ} (n : ℕ) (f : ℕ → ℕ) → least ≡ least_below n f → one ≡ f n → next ≡ min least one → next ≡ least_below (n + 1) f
least_loop n f p q r = r ∙ ap₂ min p q ∙ sym (least_next n f)

-- the loop's end
pub least_ends : {least : ℕ} (n : ℕ) (f : ℕ → ℕ) (i : ℕ) → i ≡ n → least ≡ least_below i f → least ≡ least_below n f
least_ends n f i e p = rw (← e) p

-- the first number, and the others
least_first : (n : ℕ) (f : ℕ → ℕ) → least_below (suc n) f ≡ min (f 0) (least_below n (λ i. f (suc i)))
unfolding least_below
least_first zero f = omega arith
least_first (suc n) f = omega (arith, least_first n f)

-- of the smaller of two
pub least_min : (n : ℕ) (f g : ℕ → ℕ) → least_below n (λ k. min (f k) (g k)) ≡ min (least_below n f) (least_below n g)
unfolding least_below
least_min zero f g = refl
least_min (suc n) f g = omega (arith, least_min n f g)

-- of one number
pub least_constant : (n x : ℕ) → 0 < n → x ≤ never → least_below n (λ k. x) ≡ x
least_constant n x some most = (least_own n (λ k. x) some (λ k. most)).2

least_nothing : (n : ℕ) → least_below n (λ k. never) ≡ never
unfolding least_below
least_nothing zero = refl
least_nothing (suc n) = omega (arith, least_nothing n)

-- over two bounds, in either order
pub least_swap : (n m : ℕ) (f : ℕ → ℕ → ℕ) → least_below m (λ p. least_below n (λ i. f i p)) ≡ least_below n (λ i. least_below m (f i))
unfolding least_below
least_swap zero m f = least_nothing m
least_swap (suc n) m f = least_min m (λ p. least_below n (λ i. f i p)) (f n) ∙ ap (λ (x : ℕ). min x (least_below m (f n))) (least_swap n m f)

-- the soonest of some times, by their places
soonest_least : (now : ℕ) (xs : List ℕ) → soonest now xs ≡ least_below (length xs) (λ i. after_now now (get_or xs i 0))
unfolding soonest least_below
soonest_least now [] = refl
soonest_least now (x ∷ xs) =
    ap (λ (y : ℕ). min (after_now now x) y) (soonest_least now xs) ∙ sym (least_first (length xs) (λ i. after_now now (get_or (x ∷ xs) i 0)))

-- the same, with the numbers by another name
pub soonest_at : (now n : ℕ) (f : ℕ → ℕ) (xs : List ℕ) → length xs ≡ n → ((i : ℕ) → i < n → after_now now (get_or xs i 0) ≡ f i) → soonest now xs ≡ least_below n f
soonest_at now n f xs e h =
    soonest_least now xs
    ∙ ap (λ (m : ℕ). least_below m (λ i. after_now now (get_or xs i 0))) e
    ∙ least_same n (λ i. after_now now (get_or xs i 0)) f h
