-- A loop that tests the numbers from 0 on, up to the first that fails.
use mathlib.Core.Path.{◌≡◌, refl, sym, ◌∙◌}
use mathlib.Core.Logic.{⊎_elim}
use mathlib.Core.Bool.{Bool, true, false}
use Prim.Native.Nat.{ℕ, ◌+◌, ◌<◌}
use native.Mathlib.Numerals.{add-one}
use Rattle.lists.specs.Tests.{below}
use Rattle.lists.proofs.Cases.{bool_cases, and_both, true_false}
use Rattle.lists.proofs.Below.{below_each}

-- nothing looked at yet
pub loop_starts : (test : ℕ → Bool) → below 0 test ≡ true
unfolding below
loop_starts test = refl

-- a place fails
pub loop_fails : (n : ℕ) (test : ℕ → Bool) (i : ℕ) {b : Bool} → i < n → b ≡ test i → b ≡ false → false ≡ below n test
loop_fails n test i h e f =
    ⊎_elim
    (λ (a : below n test ≡ true). true_false (test i) (below_each n test a i h) (sym e ∙ f))
    (λ (a : below n test ≡ false). sym a)
    (bool_cases (below n test))

-- one more place passes
pub loop_next : (test : ℕ → Bool) (i : ℕ) {b : Bool} → below i test ≡ true → b ≡ test i → b ≡ true → below (i + 1) test ≡ true
unfolding below
loop_next test i a e f = rw add-one (and_both (below i test) (test i) a (sym e ∙ f))

-- every place has passed
pub loop_ends : (n : ℕ) (test : ℕ → Bool) (i : ℕ) → i ≡ n → below i test ≡ true → true ≡ below n test
loop_ends n test i e a = rw (← e) (sym a)
