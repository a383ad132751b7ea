-- Laws of reading a state, and what a run keeps true of the state of a pattern.
use mathlib.Core.Path.{◌≡◌, refl, sym, ◌∙◌, ap}
use mathlib.Core.Logic.{◌⊎◌, inl, inr, ⊎_elim}
use mathlib.Core.Bool.{true}
use mathlib.Core.List.{List, map}
use Prim.Native.Nat.{ℕ, zero, suc, ◌+◌, ◌-◌, ◌≤◌, ◌<◌}
use native.Mathlib.Omega.{arith}
use lib.ListN.{length, get_or, length-map, get_or-eq_default}
use lib.Seq.{ext_get_or}
use borrow.Author.Tests.{lt-ltb, le-ltb}
use Rattle.lists.proofs.Cases.{lt_or_ge}
use Rattle.lists.proofs.Map.{map_at}
use Rattle.format.specs.Circuit.{Circuit, first_node_number}
use Rattle.format.specs.Legal.{is_input}
use Rattle.diagram.specs.Table.{never}
use Rattle.rules.specs.State.{State, value_at, change_at, up_from, node_numbers}

-- the number of a node record
pub record Numbered (c : Circuit) (n : ℕ) : Type 0 where
  pub least : first_node_number ≤ n
  pub most : n < first_node_number + length c.nodes

-- a state has a value and a next change for each node record
pub record Shaped (c : Circuit) (s : State) : Type 0 where
  pub values_long : length s.values ≡ length c.nodes
  pub changes_long : length s.changes ≡ length c.nodes

-- values are 0 or 1
pub record Bits (c : Circuit) (s : State) : Type 0 where
  pub bit : (n : ℕ) → Numbered c n → value_at s n ≤ 1

-- a next change is never, or after now and not past the horizon; inputs have never
pub record Pending (c : Circuit) (now : ℕ) (s : State) : Type 0 where
  pub later : (n : ℕ) → Numbered c n → (change_at s n ≡ never) ⊎ ((now < change_at s n) × (change_at s n ≤ c.horizon.0))
  pub inputs_rest_lem : (n : ℕ) → Numbered c n → is_input c n ≡ true → change_at s n ≡ never

-- n numbers are n
pub up_length : (n k : ℕ) → length (up_from n k) ≡ n
unfolding up_from
up_length zero k = refl
up_length (suc n) k = ap suc (up_length n (suc k))

-- the number at a place
pub up_at : (n k i d : ℕ) → i < n → get_or (up_from n k) i d ≡ k + i
unfolding up_from
up_at zero k i d h = absurd (omega arith)
up_at (suc n) k zero d h = omega arith
up_at (suc n) k (suc i) d h = up_at n (suc k) i d (omega arith) ∙ omega arith

-- the number of the record at a place
pub at_place : (c : Circuit) (i : ℕ) → i < length c.nodes → Numbered c (2 + i)
at_place c i h = record { least = omega arith; most = omega arith }

module _ (c : Circuit) where
  -- a function at each node number gives a list as long as the node records
  pub numbers_length : (f : ℕ → ℕ) → length (map f (node_numbers c)) ≡ length c.nodes
  numbers_length f = length-map (node_numbers c) f ∙ up_length (length c.nodes) 2

  -- and at the place of node n it gives the function at n
  pub numbers_at : (f : ℕ → ℕ) (d n : ℕ) → Numbered c n → get_or (map f (node_numbers c)) (n - 2) d ≡ f n
  numbers_at f d n h =
      map_at f (node_numbers c) 0 d (n - 2) (omega (arith, up_length (length c.nodes) 2))
      ∙ ap f (up_at (length c.nodes) 2 (n - 2) 0 (omega arith) ∙ omega arith)

  -- a list as long as the node records, by what stands at the place of each node
  pub numbers_eta : (f : ℕ → ℕ) (d : ℕ) (xs : List ℕ) → length xs ≡ length c.nodes → ((n : ℕ) → Numbered c n → get_or xs (n - 2) d ≡ f n) → xs ≡ map f (node_numbers c)
  numbers_eta f d xs e h =
      ext_get_or d xs (map f (node_numbers c)) (e ∙ sym (numbers_length f))
      (λ i l.
      let k : Numbered c (2 + i) = at_place c i (omega arith) in
      let p : 2 + i - 2 ≡ i = omega arith in
      ap (λ (j : ℕ). get_or xs j d) (sym p) ∙ h (2 + i) k ∙ sym (numbers_at f d (2 + i) k) ∙ ap (λ (j : ℕ). get_or (map f (node_numbers c)) j d) p)

  -- functions that agree at each node give the same list
  pub numbers_same : (f g : ℕ → ℕ) → ((n : ℕ) → Numbered c n → f n ≡ g n) → map f (node_numbers c) ≡ map g (node_numbers c)
  numbers_same f g h = numbers_eta g 0 (map f (node_numbers c)) (numbers_length f) (λ n k. numbers_at f 0 n k ∙ h n k)

-- a node's value stands at its place
pub value_place : (s : State) (n : ℕ) → first_node_number ≤ n → value_at s n ≡ get_or s.values (n - 2) 0
value_place s n h = rw (le-ltb n 2 h)

-- and so does its next change
pub change_place_lem : (s : State) (n : ℕ) → first_node_number ≤ n → change_at s n ≡ get_or s.changes (n - 2) never
change_place_lem s n h = rw (le-ltb n 2 h)

-- a rail's value is its number
pub rail_value : (s : State) (n : ℕ) → n < first_node_number → value_at s n ≡ n
rail_value s n h = rw (lt-ltb n 2 h)

module _ (c : Circuit) (s : State) where
  -- the value of a node in a state whose values are a function of the node
  pub map_value : (f : ℕ → ℕ) → s.values ≡ map f (node_numbers c) → (n : ℕ) → Numbered c n → value_at s n ≡ f n
  map_value f e n h = value_place s n h.least ∙ ap (λ (xs : List ℕ). get_or xs (n - 2) 0) e ∙ numbers_at c f 0 n h

  -- the next change of a node in a state whose next changes are a function of the node
  pub map_change : (f : ℕ → ℕ) → s.changes ≡ map f (node_numbers c) → (n : ℕ) → Numbered c n → change_at s n ≡ f n
  map_change f e n h = change_place_lem s n h.least ∙ ap (λ (xs : List ℕ). get_or xs (n - 2) never) e ∙ numbers_at c f never n h

  -- a state whose lists are functions of the node has the right lengths
  pub map_shaped : (f g : ℕ → ℕ) → s.values ≡ map f (node_numbers c) → s.changes ≡ map g (node_numbers c) → Shaped c s
  map_shaped f g p q = record { values_long = ap length p ∙ numbers_length c f; changes_long = ap length q ∙ numbers_length c g }

  module _ (sh : Shaped c s) where
    -- the values are those of the nodes, in order
    pub values_eta : s.values ≡ map (value_at s) (node_numbers c)
    values_eta = numbers_eta c (value_at s) 0 s.values sh.values_long (λ n h. sym (value_place s n h.least))

    -- the next changes are those of the nodes, in order
    pub changes_eta : s.changes ≡ map (change_at s) (node_numbers c)
    changes_eta = numbers_eta c (change_at s) never s.changes sh.changes_long (λ n h. sym (change_place_lem s n h.least))

-- states that agree at each node are equal
pub state_ext : (c : Circuit) (s t : State) → Shaped c s → Shaped c t → ((n : ℕ) → Numbered c n → value_at s n ≡ value_at t n) → ((n : ℕ) → Numbered c n → change_at s n ≡ change_at t n) → s ≡ t
state_ext c s t p q hv hc =
    let vs : s.values ≡ t.values = values_eta c s p ∙ numbers_same c (value_at s) (value_at t) hv ∙ sym (values_eta c t q) in
    let cs : s.changes ≡ t.changes = changes_eta c s p ∙ numbers_same c (change_at s) (change_at t) hc ∙ sym (changes_eta c t q) in
    λ i. record { values = vs i; changes = cs i }

-- a number is a rail's, a node record's, or past them
pub node_cases : (c : Circuit) (n : ℕ) → (n < first_node_number) ⊎ (Numbered c n ⊎ (first_node_number + length c.nodes ≤ n))
node_cases c n =
    ⊎_elim
    (λ (h : n < 2). inl h)
    (λ (h : 2 ≤ n).
    ⊎_elim
    (λ (g : n < 2 + length c.nodes). inr (inl (record { least = h; most = g })))
    (λ (g : 2 + length c.nodes ≤ n). inr (inr g))
    (lt_or_ge n (2 + length c.nodes)))
    (lt_or_ge n 2)

-- every value of a state whose node records have bits is 0 or 1: a rail's is its number, and past the last there is none
pub any_bit : (c : Circuit) (s : State) → Shaped c s → Bits c s → (n : ℕ) → value_at s n ≤ 1
any_bit c s shaped bits n =
    ⊎_elim
    (λ (h : n < first_node_number). omega (arith, rail_value s n h))
    (λ (h : Numbered c n ⊎ (first_node_number + length c.nodes ≤ n)).
    ⊎_elim
    (λ (i : Numbered c n). bits.bit n i)
    (λ (i : first_node_number + length c.nodes ≤ n). omega (arith, value_place s n (omega arith), get_or-eq_default s.values 0 {n = n - 2} (omega (arith, shaped.values_long))))
    h)
    (node_cases c n)
