-- The node records by their numbers: which numbers are listed, and tests that are asked of all of them.
use mathlib.Core.Path.{◌≡◌, ◌∙◌, subst}
use mathlib.Core.Logic.{⊎_elim}
use mathlib.Core.Bool.{Bool, true, false}
use mathlib.Core.List.{Memᴰ}
use Prim.Native.Nat.{ℕ, ◌+◌, ◌-◌, ◌<◌}
use native.Mathlib.Omega.{arith}
use lib.ListN.{length, get_or}
use Rattle.lists.proofs.Cases.{bool_cases, true_false}
use Rattle.format.specs.Circuit.{Circuit}
use Rattle.rules.specs.State.{node_numbers}
use Rattle.rules.specs.Label.{some}
use Rattle.rules.proofs.State.{Numbered, up_length, up_at}
use Rattle.rules.proofs.Arrive.{some_same}
use Rattle.rules.proofs.Label.{IsNode, at_each, some_found, some_passes}
use Rattle.rules.proofs.Matrix.{at_member}

-- node numbers are those of the node records
module _ (c : Circuit) where
  pub node_member : (m : ℕ) → IsNode (length c.nodes) m → Memᴰ m (node_numbers c)
  node_member m h =
      let small : m - 2 < length (node_numbers c) = omega (arith, up_length (length c.nodes) 2, h.least, h.most) in
      let is : get_or (node_numbers c) (m - 2) 0 ≡ m = up_at (length c.nodes) 2 (m - 2) 0 (omega (arith, h.least, h.most)) ∙ omega (arith, h.least) in
      subst (λ (x : ℕ). Memᴰ x (node_numbers c)) is (at_member (node_numbers c) 0 (m - 2) small)

  pub member_node : (m : ℕ) → Memᴰ m (node_numbers c) → IsNode (length c.nodes) m
  member_node m at =
      at_each (IsNode (length c.nodes)) 0 (node_numbers c)
      (λ i h.
      let few : i < length c.nodes = omega (arith, up_length (length c.nodes) 2) in
      let is : get_or (node_numbers c) i 0 ≡ 2 + i = up_at (length c.nodes) 2 i 0 few in
      record { least = omega (arith, is); most = omega (arith, is) })
      m at

  -- a test that one of them passes
  pub some_node : (test : ℕ → Bool) (n : ℕ) → Numbered c n → test n ≡ true → some test (node_numbers c) ≡ true
  some_node test n h e = some_passes test (node_numbers c) n (node_member n (record { least = h.least; most = h.most })) e

  -- one that none of them passes
  pub no_node : (test : ℕ → Bool) → ((n : ℕ) → Numbered c n → test n ≡ false) → some test (node_numbers c) ≡ false
  no_node test h =
      ⊎_elim
      (λ (e : some test (node_numbers c) ≡ true).
      let x = some_found test (node_numbers c) e in
      let m = member_node x.0 x.1 in
      true_false (test x.0) x.2 (h x.0 (record { least = m.least; most = m.most })))
      (λ (e : some test (node_numbers c) ≡ false). e)
      (bool_cases (some test (node_numbers c)))

  -- where none passes, each one fails
  pub each_fails : (test : ℕ → Bool) → some test (node_numbers c) ≡ false → (n : ℕ) → Numbered c n → test n ≡ false
  each_fails test e n h =
      ⊎_elim
      (λ (p : test n ≡ true). true_false (some test (node_numbers c)) (some_node test n h p) e)
      (λ (p : test n ≡ false). p)
      (bool_cases (test n))

  -- tests that agree on all of them
  pub some_nodes : (f g : ℕ → Bool) → ((n : ℕ) → Numbered c n → f n ≡ g n) → some f (node_numbers c) ≡ some g (node_numbers c)
  some_nodes f g h = some_same f g (node_numbers c) (λ n m. let k = member_node n m in h n (record { least = k.least; most = k.most }))
