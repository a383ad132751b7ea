-- The cell that a flat column lays out, record by record.
use mathlib.Core.Path.{◌≡◌, refl, sym, ◌∙◌, ap, ap₂}
use mathlib.Core.List.{List, [], ◌∷◌, map}
use mathlib.Core.Bool.{Bool, not, ◌&&◌, ◌||◌, and_assoc, and-true}
use Prim.Native.Nat.{ℕ, zero, suc, ◌+◌, ◌-◌, ◌<◌}
use native.Mathlib.Omega.{arith}
use lib.ListN.{length, get_or, length-map}
use lib.Dec.{eqb}
use borrow.Author.Tests.{le-leb}
use Rattle.lists.specs.Tests.{below}
use Rattle.lists.proofs.Below.{below_ext}
use Rattle.format.specs.declared.Entry.{Entry}
use Rattle.format.specs.Circuit.{Circuit, no_entry}
use Rattle.format.specs.Legal.{is_input, input}
use Rattle.lists.proofs.Map.{map_at}
use Rattle.rules.specs.State.{up_from}
use Rattle.rules.specs.Run.{inputs_rest, never_entry}
use Rattle.net.specs.Net.{nodes_place, entries_place, role_place, time_place, at, net_circuit}
use Rattle.net.proofs.Laying.{schedule_length, node_at_lem, entry_at_lem}

module _ (net : List ℕ) where
  -- which node records are inputs
  pub input_at : (i : ℕ) → i < at net nodes_place → is_input (net_circuit net) (2 + i) ≡ eqb (at net (role_place + i)) input
  input_at i h =
      let back : 2 + i - 2 ≡ i = omega arith in
      rw (le-leb 2 (2 + i) (omega arith), back, node_at_lem net i h)

  -- the times of the schedule
  abbrev pub times : List ℕ
  times = map (λ (e : Entry). e.time.0) (net_circuit net).schedule

  pub times_count : length times ≡ at net entries_place
  times_count = length-map (net_circuit net).schedule (λ (e : Entry). e.time.0) ∙ schedule_length net

  pub time_at : (i : ℕ) → i < at net entries_place → get_or times i 0 ≡ at net (time_place + i)
  time_at i h =
      map_at (λ (e : Entry). e.time.0) (net_circuit net).schedule no_entry 0 i (omega (arith, schedule_length net))
      ∙ ap (λ (e : Entry). e.time.0) (entry_at_lem net i h)

-- the first of the numbers below a bound, and the others
below_first : (n : ℕ) (test : ℕ → Bool) → below (suc n) test ≡ (test 0 && below n (λ i. test (suc i)))
unfolding below
below_first zero test = sym (and-true (test 0))
below_first (suc n) test = ap (λ (b : Bool). b && test (suc n)) (below_first n test) ∙ and_assoc (test 0) (below n (λ i. test (suc i))) (test (suc n))

-- the rest of the inputs, place by place
pub inputs_below : (c : Circuit) (n k : ℕ) (es : List ℕ) → length es ≡ n
    → inputs_rest c (up_from n k) es ≡ below n (λ i. not (is_input c (k + i)) || eqb (get_or es i 0) never_entry)
unfolding inputs_rest up_from below
inputs_below c zero k [] e = refl
inputs_below c zero k (x ∷ es) e = absurd (omega arith)
inputs_below c (suc n) k [] e = absurd (omega arith)
inputs_below c (suc n) k (x ∷ es) e =
    let test : ℕ → Bool = λ (i : ℕ). not (is_input c (k + i)) || eqb (get_or (x ∷ es) i 0) never_entry in
    let start : k ≡ k + 0 = omega arith in
    let next : (i : ℕ) → suc k + i ≡ k + suc i = λ i. omega arith in
    let first : (not (is_input c k) || eqb x never_entry) ≡ test 0 = ap (λ (j : ℕ). not (is_input c j) || eqb x never_entry) start in
    let rest : inputs_rest c (up_from n (suc k)) es ≡ below n (λ i. test (suc i)) =
    inputs_below c n (suc k) es (omega arith)
    ∙ below_ext n (λ i. not (is_input c (suc k + i)) || eqb (get_or es i 0) never_entry) (λ i. test (suc i))
    (λ i l. ap (λ (j : ℕ). not (is_input c j) || eqb (get_or es i 0) never_entry) (next i)) in
    ap₂ ◌&&◌ first rest ∙ sym (below_first n test)
