-- The arms of a node: where the column lists them, and that an inner node is a seed by one of them.
use mathlib.Core.Path.{◌≡◌, refl, sym, ◌∙◌, ap, ap₂, subst}
use mathlib.Core.List.{List, [], ◌∷◌}
use mathlib.Core.Bool.{Bool, true, false, ◌&&◌, ◌||◌, cond}
use Prim.Native.Nat.{ℕ, suc, ◌+◌, ◌*◌, ◌<◌}
use native.Mathlib.Omega.{arith}
use lib.ListN.{length, get_or}
use lib.Dec.{eqb}
use borrow.Author.Tests.{eq-eqb, eqb-true}
use Rattle.lists.proofs.Cases.{and_left, and_right, and_both, bool_ext}
use Rattle.format.specs.declared.Transistor.{Transistor}
use Rattle.format.specs.Circuit.{Circuit, no_transistor}
use Rattle.format.proofs.Legal.{LegalTransistor, LegalCell}
use Rattle.rules.specs.State.{node_numbers, is_inner}
use Rattle.rules.specs.Label.{joined, in_piece, some}
use Rattle.rules.specs.Matrix.{transistor_at}
use Rattle.rules.proofs.Arrive.{some_same}
use Rattle.rules.proofs.Label.{IsNode, all_legal, inner_node_lem, joined_refl, first_joined}
use Rattle.net.specs.Net.{at, net_circuit, arms_from, arms_of, net_arms}
use Rattle.net.specs.Laid.{Laid}
use Rattle.net.proofs.NodeArms as arms
use Rattle.prepare.specs.Steps.{disturbed_by, seed_by}

module _ (net : List ℕ) (k : Laid (net_circuit net) net) (n : ℕ) (lt : n < 2 + at net 0) where
  same : net_arms net n ≡ arms_of (net_circuit net) n
  same = k.arms n lt

  -- as many arms as it says
  pub arms_length : length (arms_of (net_circuit net) n) ≡ at net (592 + n)
  arms_length = ap (λ (is : List ℕ). length is) (sym same) ∙ arms.arms_length net k n lt

  -- each at its place
  pub arms_at : (j : ℕ) → j < at net (592 + n) → get_or (arms_of (net_circuit net) n) j 0 ≡ at net (624 + 64 * n + j)
  arms_at j h = ap (λ (is : List ℕ). get_or is j 0) (sym same) ∙ arms.arms_at net k n lt j (omega (arith, arms.arms_length net k n lt))

  -- and a transistor
  pub arms_within : (j : ℕ) → j < at net (592 + n) → at net (624 + 64 * n + j) < at net 1
  arms_within j h = omega (arith, arms_at j h, ap (λ (is : List ℕ). get_or is j 0) same, arms.arms_within net k n lt j (omega (arith, arms.arms_length net k n lt)))

-- a number that is listed if a test passes
some_if : (test : ℕ → Bool) (b : Bool) (i : ℕ) (is : List ℕ) → some test (cond b (i ∷ is) is) ≡ (b && test i) || some test is
unfolding some
some_if test true i is = refl
some_if test false i is = refl

-- some arm, and some transistor with an end at the node
arms_some : (test : Transistor → Bool) (f : ℕ → Transistor) (n i : ℕ) (ts : List Transistor) → ((j : ℕ) → j < length ts → f (i + j) ≡ get_or ts j no_transistor)
    → some (λ (j : ℕ). test (f j)) (arms_from n i ts) ≡ some (λ (t : Transistor). (eqb t.first n || eqb t.second n) && test t) ts
unfolding arms_from some
arms_some test f n i [] h = refl
arms_some test f n i (t ∷ ts) h =
    let here : i ≡ i + 0 = omega arith in
    some_if (λ (j : ℕ). test (f j)) (eqb t.first n || eqb t.second n) i (arms_from n (suc i) ts)
    ∙ ap₂ (λ (x y : Bool). ((eqb t.first n || eqb t.second n) && x) || y)
    (ap test (ap f here ∙ h 0 (omega arith)))
    (arms_some test f n (suc i) ts (λ j l. let next : suc i + j ≡ i + suc j = omega arith in ap f next ∙ h (suc j) (omega arith)))

module _ (c : Circuit) (l : LegalCell c) (n : ℕ) (node : IsNode (length c.nodes) n) (inner : is_inner c n ≡ true) where
  -- each node is a piece of its own
  own_piece : (m : ℕ) → m < 2 + length c.nodes → in_piece c (node_numbers c) n m ≡ eqb m n
  own_piece m lt =
      bool_ext (in_piece c (node_numbers c) n m) (eqb m n)
      (λ e. eq-eqb m n (sym (first_joined c n m node (inner_node_lem c (length c.nodes) m (and_left (is_inner c m) _ e) lt) (and_right (is_inner c m) _ e))))
      (λ e. subst (λ (x : ℕ). in_piece c (node_numbers c) n x ≡ true) (sym (eqb-true m n e)) (and_both (is_inner c n) (joined (node_numbers c) n n) inner (joined_refl (node_numbers c) n)))

  -- a seed by one of its arms
  pub seed_arms : (changed : ℕ → Bool) → some (λ (i : ℕ). disturbed_by c changed (transistor_at c i)) (arms_of c n) ≡ seed_by c changed n
  seed_arms changed =
      arms_some (disturbed_by c changed) (transistor_at c) n 0 c.transistors (λ j h. let same : 0 + j ≡ j = omega arith in ap (transistor_at c) same)
      ∙ some_same _ _ c.transistors (λ t m.
      let legal : LegalTransistor (length c.nodes) t = all_legal l t m in
      ap₂ (λ (x y : Bool). (x || y) && disturbed_by c changed t) (sym (own_piece t.first legal.first_is)) (sym (own_piece t.second legal.second_is)))
