-- Laws of a test over the numbers below a bound.
use mathlib.Core.Path.{◌≡◌, refl}
use mathlib.Core.Logic.{⊎_elim}
use mathlib.Core.Bool.{Bool, true}
use Prim.Native.Nat.{ℕ, zero, suc, ◌<◌, ◌≤◌}
use native.Mathlib.Omega.{arith}
use Rattle.lists.specs.Tests.{below}
use Rattle.lists.proofs.Cases.{lt_or_ge, and_left, and_right, and_both}

-- where all pass, each does
pub below_each : (n : ℕ) (test : ℕ → Bool) → below n test ≡ true → (i : ℕ) → i < n → test i ≡ true
unfolding below
below_each zero test e i h = absurd (omega arith)
below_each (suc n) test e i h =
    ⊎_elim
    (λ (g : i < n). below_each n test (and_left (below n test) (test n) e) i g)
    (λ (g : n ≤ i).
    let same : i ≡ n = omega arith in
    rw same (and_right (below n test) (test n) e))
    (lt_or_ge i n)

-- where each passes, all do
pub each_below : (n : ℕ) (test : ℕ → Bool) → ((i : ℕ) → i < n → test i ≡ true) → below n test ≡ true
unfolding below
each_below zero test h = refl
each_below (suc n) test h = and_both (below n test) (test n) (each_below n test (λ i g. h i (omega arith))) (h n (omega arith))

-- equal tests below the bound give equal answers
pub below_ext : (n : ℕ) (f g : ℕ → Bool) → ((i : ℕ) → i < n → f i ≡ g i) → below n f ≡ below n g
unfolding below
below_ext zero f g h = refl
below_ext (suc n) f g h = rw (below_ext n f g (λ i l. h i (omega arith)), h n (omega arith))
