-- The 96 transistors: how many they are, the one at a place, that each is legal and stands before those behind it, and that none is missing.
use mathlib.Core.Path.{◌≡◌, refl, sym, ◌∙◌, ap}
use mathlib.Core.Logic.{⊎_elim}
use mathlib.Core.Bool.{Bool, true, ◌&&◌, ◌||◌, cond}
use mathlib.Core.List.{List, map, flat_map}
use Prim.Native.Nat.{ℕ, ◌+◌, ◌-◌, ◌*◌, ◌<◌}
use native.Mathlib.Omega.{arith}
use lib.Dec.{ltb, eqb}
use lib.ListN.{length, get_or}
use borrow.Author.Tests.{eqb-true, ltb-true}
use Rattle.lists.specs.Tests.{below}
use Rattle.lists.proofs.Below.{below_each}
use Rattle.lists.proofs.Map.{map_at}
use Rattle.lists.proofs.Cases.{and_left, and_right, or_cases}
use Rattle.units.specs.Units.{ohms}
use Rattle.format.specs.declared.Transistor.{Transistor}
use Rattle.format.specs.Circuit.{no_transistor, every}
use Rattle.format.specs.Legal.{transistor_legal}
use Rattle.format.proofs.Every.{every_at}
use Rattle.format.proofs.Legal.{LegalTransistor}
use Rattle.catalog.specs.Lists.{precedes}
use Rattle.catalog.specs.Small.{polarities, node_numbers, other_ends, transistor, small_transistors, key_of}
use Rattle.catalog.proofs.Lists.{flat_at}
use Rattle.catalog.proofs.Precedes.{ordered, ordered_at}

pub transistors_length : length small_transistors ≡ 96
unfolding small_transistors flat_map
transistors_length = refl

-- each is legal and of 1 ohm
abbrev of_one_ohm : Transistor → Bool
of_one_ohm t = transistor_legal 2 t && eqb t.resistance.0 1

transistors_legal : every of_one_ohm small_transistors ≡ true
unfolding small_transistors flat_map every transistor_legal
transistors_legal = refl

transistors_rise : ordered (λ (t u : Transistor). precedes (key_of t) (key_of u)) small_transistors ≡ true
unfolding small_transistors flat_map ordered every precedes
transistors_rise = refl

-- lists of numbers that start at 0
polarities_at : (n : ℕ) → n < 2 → get_or polarities n 0 ≡ n
unfolding below
polarities_at n h = eqb-true (get_or polarities n 0) n (below_each 2 (λ (i : ℕ). eqb (get_or polarities i 0) i) refl n h)

numbers_at : (n : ℕ) → n < 4 → get_or node_numbers n 0 ≡ n
unfolding below
numbers_at n h = eqb-true (get_or node_numbers n 0) n (below_each 4 (λ (i : ℕ). eqb (get_or node_numbers i 0) i) refl n h)

-- a test of two numbers
below_both : (m n : ℕ) (test : ℕ → ℕ → Bool) → below m (λ i. below n (test i)) ≡ true → (i j : ℕ) → i < m → j < n → test i j ≡ true
below_both m n test e i j h g = below_each n (test i) (below_each m (λ k. below n (test k)) e i h) j g

-- the second end at a place is the place's number, or one more from the first end on
pub end_at : (f o : ℕ) → f < 4 → o < 3 → get_or (other_ends f) o 0 ≡ cond (ltb o f) o (o + 1)
unfolding below flat_map
end_at f o h g =
    eqb-true (get_or (other_ends f) o 0) (cond (ltb o f) o (o + 1)) (below_both 4 3 (λ (i j : ℕ). eqb (get_or (other_ends i) j 0) (cond (ltb j i) j (j + 1))) refl f o h g)

ends_length : (f : ℕ) → f < 4 → length (other_ends f) ≡ 3
unfolding below flat_map
ends_length f h = eqb-true (length (other_ends f)) 3 (below_each 4 (λ (i : ℕ). eqb (length (other_ends i)) 3) refl f h)

-- The list's parts, from the inside: the second ends, the first ends, the gates.
module _ (p : ℕ) where
  abbrev at_first : ℕ → ℕ → List Transistor
  at_first g f = map (transistor p g f) (other_ends f)

  abbrev at_gate : ℕ → List Transistor
  at_gate g = flat_map (at_first g) node_numbers

  abbrev of_type : List Transistor
  of_type = flat_map at_gate node_numbers

  first_at : (g f o : ℕ) → f < 4 → o < 3 → get_or (at_first g f) o no_transistor ≡ transistor p g f (get_or (other_ends f) o 0)
  first_at g f o h k = map_at (transistor p g f) (other_ends f) 0 no_transistor o (omega (arith, ends_length f h))

  gate_at : (g f o : ℕ) → f < 4 → o < 3 → get_or (at_gate g) (f * 3 + o) no_transistor ≡ transistor p g f (get_or (other_ends f) o 0)
  unfolding every flat_map
  gate_at g f o h k =
      flat_at (at_first g) 3 node_numbers refl f o 0 no_transistor h k ∙ ap (λ (n : ℕ). get_or (at_first g n) o no_transistor) (numbers_at f h) ∙ first_at g f o h k

  type_at : (g f o : ℕ) → g < 4 → f < 4 → o < 3 → get_or of_type (g * 12 + (f * 3 + o)) no_transistor ≡ transistor p g f (get_or (other_ends f) o 0)
  unfolding every flat_map
  type_at g f o l h k =
      flat_at at_gate 12 node_numbers refl g (f * 3 + o) 0 no_transistor l (omega arith)
      ∙ ap (λ (n : ℕ). get_or (at_gate n) (f * 3 + o) no_transistor) (numbers_at g l) ∙ gate_at g f o h k

pub transistor_placed : (p g f o : ℕ) → p < 2 → g < 4 → f < 4 → o < 3
    → get_or small_transistors (p * 48 + (g * 12 + (f * 3 + o))) no_transistor ≡ transistor p g f (get_or (other_ends f) o 0)
unfolding small_transistors every flat_map
transistor_placed p g f o i l h k =
    flat_at of_type 48 polarities refl p (g * 12 + (f * 3 + o)) 0 no_transistor i (omega arith)
    ∙ ap (λ (n : ℕ). get_or (of_type n) (g * 12 + (f * 3 + o)) no_transistor) (polarities_at p i) ∙ type_at p g f o l h k

-- where a second end stands among those that differ from the first
abbrev end_place : ℕ → ℕ → ℕ
end_place f s = cond (ltb s f) s (s - 1)

record Found (f s : ℕ) : Type 0 where
  pub within : end_place f s < 3
  pub is : get_or (other_ends f) (end_place f s) 0 ≡ s

abbrev found : ℕ → ℕ → Bool
found f s = ltb (end_place f s) 3 && eqb (get_or (other_ends f) (end_place f s) 0) s

end_found : (f s : ℕ) → f < 4 → s < 4 → (f ≡ s → ⊥) → Found f s
unfolding below flat_map
end_found f s h g ne =
    let e : found f s ≡ true =
    ⊎_elim
    (λ (same : eqb f s ≡ true). absurd (ne (eqb-true f s same)))
    (λ (x : found f s ≡ true). x)
    (or_cases (eqb f s) (found f s) (below_both 4 4 (λ (i j : ℕ). eqb i j || found i j) refl f s h g)) in
    record {
      within = ltb-true (end_place f s) 3 (and_left (ltb (end_place f s) 3) (eqb (get_or (other_ends f) (end_place f s) 0) s) e);
      is = eqb-true (get_or (other_ends f) (end_place f s) 0) s (and_right (ltb (end_place f s) 3) (eqb (get_or (other_ends f) (end_place f s) 0) s) e);
    }

-- no legal transistor of 1 ohm is missing
pub record Placed (t : Transistor) : Type 0 where
  pub place : ℕ
  pub within : place < 96
  pub is : get_or small_transistors place no_transistor ≡ t

pub transistor_found : (t : Transistor) → LegalTransistor 2 t → t.resistance.0 ≡ 1 → Placed t
transistor_found t l one =
    let e = end_found t.first t.second l.first_is l.second_is l.ends_differ in
    let o = end_place t.first t.second in
    record {
      place = t.polarity * 48 + (t.gate * 12 + (t.first * 3 + o));
      within = omega (arith, l.polarity_is, l.gate_is, l.first_is, e.within);
      is =
          transistor_placed t.polarity t.gate t.first o (omega (arith, l.polarity_is)) l.gate_is l.first_is e.within
          ∙ ap (transistor t.polarity t.gate t.first) e.is
          ∙ ap (λ (r : ℕ). record { polarity = t.polarity; gate = t.gate; first = t.first; second = t.second; resistance = ohms r }) (sym one);
    }

-- each is legal and of 1 ohm, and stands before those behind it
pub transistor_legal_lem : (k : ℕ) → k < 96 → transistor_legal 2 (get_or small_transistors k no_transistor) ≡ true
transistor_legal_lem k h =
    let t = get_or small_transistors k no_transistor in
    and_left (transistor_legal 2 t) (eqb t.resistance.0 1) (every_at of_one_ohm small_transistors transistors_legal no_transistor k (omega (arith, transistors_length)))

pub transistor_one : (k : ℕ) → k < 96 → eqb (get_or small_transistors k no_transistor).resistance.0 1 ≡ true
transistor_one k h =
    let t = get_or small_transistors k no_transistor in
    and_right (transistor_legal 2 t) (eqb t.resistance.0 1) (every_at of_one_ohm small_transistors transistors_legal no_transistor k (omega (arith, transistors_length)))

pub transistor_before : (i j : ℕ) → i < j → j < 96 → precedes (key_of (get_or small_transistors i no_transistor)) (key_of (get_or small_transistors j no_transistor)) ≡ true
transistor_before i j h g =
    ordered_at (λ (t u : Transistor). precedes (key_of t) (key_of u)) no_transistor small_transistors transistors_rise i j h (omega (arith, transistors_length))
