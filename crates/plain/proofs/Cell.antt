-- What stands where in the cell laid out flat, and in a leaf.
use mathlib.Core.Path.{◌≡◌, sym, ◌∙◌, ap}
use mathlib.Core.Logic.{⊎_elim}
use mathlib.Core.Bool.{true, false}
use mathlib.Core.Option.{some}
use mathlib.Core.List.{List}
use Prim.Native.Nat.{ℕ, zero, suc, ◌+◌, ◌-◌, ◌≤◌, ◌<◌}
use native.Mathlib.Omega.{arith}
use lib.ListN.{length, get_or, drop, get_or-replicate}
use lib.Seq.{get_or-take, get_or-drop}
use lib.Dec.{eqb}
use borrow.Author.Tests.{lt-ltb, le-ltb, le-leb, ne_eqb}
use Rattle.lists.proofs.Cases.{lt_or_ge, true_false}
use Rattle.units.specs.Units.{femtofarads}
use Rattle.format.specs.declared.Node.{Node}
use Rattle.format.specs.Circuit.{Circuit, node_record}
use Rattle.rules.specs.State.{value_at, change_at, is_driven}
use Rattle.rules.specs.Sum.{is_the}
use Rattle.net.specs.Net.{nodes_place, role_place, capacitance_place, net_node, net_circuit, at}
use Rattle.net.proofs.Laying.{node_at_lem}
use Rattle.plain.specs.Leaf.{leaf_state, from_of}
use Rattle.plain.specs.Ready.{Leaf}

module _ (net : List ℕ) where
  -- the record of a node's number
  pub net_node_lem : (n : ℕ) → 2 ≤ n → n < 2 + at net nodes_place → node_record (net_circuit net) n ≡ net_node net (n - 2)
  net_node_lem n l h = node_at_lem net (n - 2) (omega arith)

  -- a rail is a driven end
  pub rail_driven : (n : ℕ) → n < 2 → is_driven (net_circuit net) n ≡ true
  rail_driven n h = rw (lt-ltb n 2 h)

  -- a node record is one if its role says so
  pub node_driven : (n : ℕ) → 2 ≤ n → n < 2 + at net nodes_place → is_driven (net_circuit net) n ≡ eqb (at net (role_place + (n - 2))) 1
  node_driven n l h = rw (le-ltb n 2 l, le-leb 2 n l) (ap (λ (r : Node). eqb r.role 1) (net_node_lem n l h))

  -- a node that is not one is a node record
  pub inner_least : (n : ℕ) → is_driven (net_circuit net) n ≡ false → 2 ≤ n
  inner_least n e = ⊎_elim (λ (h : n < 2). true_false (is_driven (net_circuit net) n) (rail_driven n h) e) (λ (h : 2 ≤ n). h) (lt_or_ge n 2)

  -- its capacitance
  pub net_capacitance : (n : ℕ) → 2 ≤ n → n < 2 + at net nodes_place → (node_record (net_circuit net) n).capacitance ≡ femtofarads (at net (capacitance_place + (n - 2)))
  net_capacitance n l h = ap (λ (r : Node). r.capacitance) (net_node_lem n l h)

module _ (c : Circuit) (leaf : List ℕ) (pending : ℕ) where
  -- the value of a node record stands at its number
  pub record_value : (n : ℕ) → 2 ≤ n → n < 2 + length c.nodes → value_at (leaf_state c pending leaf) n ≡ get_or leaf n 0
  record_value n g l =
      let place : 2 + (n - 2) ≡ n = omega arith in
      rw (le-ltb n 2 g)
      (get_or-take (length c.nodes) (drop 2 leaf) (n - 2) 0 (omega arith) ∙ get_or-drop 2 leaf (n - 2) 0 ∙ ap (λ (i : ℕ). get_or leaf i 0) place)

  -- so does a rail's
  pub leaf_value : Leaf c leaf → (n : ℕ) → n < 2 + length c.nodes → value_at (leaf_state c pending leaf) n ≡ get_or leaf n 0
  leaf_value h n l = ⊎_elim (λ (g : n < 2). rail n g) (λ (g : 2 ≤ n). record_value n g l) (lt_or_ge n 2)
    where
      rail : (m : ℕ) → m < 2 → value_at (leaf_state c pending leaf) m ≡ get_or leaf m 0
      rail zero g = sym h.ground
      rail (suc zero) g = sym h.supply
      rail (suc (suc m)) g = absurd (omega arith)

  -- the next change of a node record is the pending one
  pub leaf_change_lem : (n : ℕ) → 2 ≤ n → n < 2 + length c.nodes → change_at (leaf_state c pending leaf) n ≡ pending
  leaf_change_lem n g l = rw (le-ltb n 2 g) (get_or-replicate (length c.nodes) (n - 2) pending _ (omega arith))

-- a transistor's number is that by which a node was reached, where that is one
pub from_is : (from i : ℕ) → i < 64 → is_the (from_of from) i ≡ eqb i from
from_is from i h =
    ⊎_elim
    (λ (g : from < 64). rw (lt-ltb from 64 g))
    (λ (g : 64 ≤ from). rw (le-ltb from 64 g) (sym (ne_eqb i from (omega arith))))
    (lt_or_ge from 64)

-- the number of a transistor stands for it
pub from_some : (i : ℕ) → i < 64 → from_of i ≡ some i
from_some i h = rw (lt-ltb i 64 h)
