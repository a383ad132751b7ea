-- Loops over the first places of an array: a test of each, up to the first that fails.
use mathlib.Core.Path.{◌≡◌, refl, sym, ◌∙◌, subst}
use mathlib.Core.Logic.{⊎_elim}
use mathlib.Core.List.{List}
use mathlib.Core.Bool.{Bool, true, false}
use Prim.Native.Nat.{ℕ, ◌+◌, ◌<◌, ◌≤◌}
use native.Mathlib.Numerals.{add-one}
use native.Mathlib.Omega.{arith}
use lib.ListN.{length, get_or, take}
use lib.Seq.{get_or-take, length-take-le}
use Rattle.std.specs.List.{list_all}
use Rattle.std.proofs.lemmas.List.{get_or_default}
use Rattle.std.proofs.lemmas.List.Sums.{AllPass-from_list_all, list_all-from_AllPass}
use Rattle.lists.specs.Tests.{below}
use Rattle.lists.proofs.Cases.{bool_cases, and_both, true_false, bool_ext}
use Rattle.lists.proofs.Below.{below_each, each_below}
use Rattle.format.specs.Circuit.{every}
use Rattle.format.proofs.Every.{every_at, every_of}

-- nothing looked at yet
pub loop_starts : (test : ℕ → Bool) → below 0 test ≡ true
unfolding below
loop_starts test = refl

-- a place fails
pub loop_fails : (n : ℕ) (test : ℕ → Bool) (i : ℕ) {b : Bool} → i < n → b ≡ test i → b ≡ false → false ≡ below n test
loop_fails n test i h e f =
    ⊎_elim
    (λ (a : below n test ≡ true). true_false (test i) (below_each n test a i h) (sym e ∙ f))
    (λ (a : below n test ≡ false). sym a)
    (bool_cases (below n test))

-- one more place passes
pub loop_next : (test : ℕ → Bool) (i : ℕ) {b : Bool} → below i test ≡ true → b ≡ test i → b ≡ true → below (i + 1) test ≡ true
unfolding below
loop_next test i a e f = rw add-one (and_both (below i test) (test i) a (sym e ∙ f))

-- every place has passed
pub loop_ends : (n : ℕ) (test : ℕ → Bool) (i : ℕ) → i ≡ n → below i test ≡ true → true ≡ below n test
loop_ends n test i e a = rw (← e) (sym a)

-- the first elements of a list, by their places
pub every_below : (test : ℕ → Bool) (n : ℕ) (xs : List ℕ) → n ≤ length xs → every test (take n xs) ≡ below n (λ i. test (get_or xs i 0))
every_below test n xs h =
    let long : length (take n xs) ≡ n = length-take-le n xs h in
    let at : (i : ℕ) → i < n → get_or (take n xs) i 0 ≡ get_or xs i 0 = λ i l. get_or-take n xs i 0 l in
    bool_ext (every test (take n xs)) (below n (λ i. test (get_or xs i 0)))
    (λ a. each_below n (λ i. test (get_or xs i 0)) (λ i l. subst (λ (x : ℕ). test x ≡ true) (at i l) (every_at test (take n xs) a 0 i (omega arith))))
    (λ a.
    every_of test (take n xs) 0 (λ i l.
    let k : i < n = omega arith in
    rw (at i k) (below_each n (λ j. test (get_or xs j 0)) a i k)))

-- the same of std's word
pub all_below : (test : ℕ → Bool) (n : ℕ) (xs : List ℕ) → n ≤ length xs → list_all test (take n xs) ≡ below n (λ i. test (get_or xs i 0))
all_below test n xs h =
    let long : length (take n xs) ≡ n = length-take-le n xs h in
    bool_ext (list_all test (take n xs)) (below n (λ i. test (get_or xs i 0)))
    (λ a.
    let passes = AllPass-from_list_all test (take n xs) a in
    each_below n (λ i. test (get_or xs i 0)) (λ i l. subst (λ (x : ℕ). test x ≡ true) (get_or-take n xs i 0 l) (passes i 0 (omega arith))))
    (λ a.
    list_all-from_AllPass test (take n xs) (λ i d l.
    let k : i < n = omega arith in
    rw (get_or-take n xs i d k) (rw (get_or_default xs i d 0 (omega (arith, h))) (below_each n (λ j. test (get_or xs j 0)) a i k))))
