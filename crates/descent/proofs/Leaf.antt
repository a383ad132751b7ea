-- The first of a pattern's numbers are a leaf, and settle what all of them do.
use mathlib.Core.Path.{◌≡◌, sym, ◌∙◌, ap}
use mathlib.Core.List.{List}
use mathlib.Core.Bool.{cond}
use Prim.Native.Nat.{ℕ, ◌+◌, ◌-◌, ◌<◌, ◌≤◌}
use native.Mathlib.Omega.{arith}
use lib.ListN.{length, take, drop, replicate, length-take, length-drop}
use lib.Seq.{get_or-take, get_or-drop, ext_get_or}
use lib.Dec.{eqb}
use Rattle.format.specs.Circuit.{Circuit}
use Rattle.net.specs.Net.{net_circuit}
use Rattle.plain.specs.Leaf.{is_kept, leaf_state, leaf_channels, leaf_change}
use Rattle.plain.specs.Ready.{Net, Ready}
use Rattle.net.proofs.Laying.{nodes_length, transistors_length}
use Rattle.net.specs.Roots.{leaf_length, roots_length}
use Rattle.descent.specs.Settle.{is_reached, pending_of, settled_at}
use Rattle.descent.specs.Descend.{Settleable}
use Rattle.plain.proofs.Arms.{by_ext}

module _ {net : List ℕ} {n : ℕ} {numbers : List ℕ} (h : Settleable net n numbers) where
  abbrev c : Circuit
  c = net_circuit net

  cell : Net net
  cell = h.node.cell

  values_first : take (length c.nodes) (drop 2 (take leaf_length numbers)) ≡ take (length c.nodes) (drop 2 numbers)
  values_first =
      let few : length c.nodes ≤ 24 = omega (arith, nodes_length net, cell.within.nodes) in
      let long : length (take leaf_length numbers) ≡ leaf_length = simp length-take (omega (arith, h.long)) in
      let one : length (drop 2 (take leaf_length numbers)) ≡ leaf_length - 2 = simp length-drop (omega arith) in
      let two : length (drop 2 numbers) ≡ roots_length - 2 = simp length-drop (omega (arith, h.long)) in
      ext_get_or 0 _ _ (simp length-take (omega arith))
      (λ i l.
      let small : i < length c.nodes = omega (arith, simp length-take at l) in
      get_or-take (length c.nodes) (drop 2 (take leaf_length numbers)) i 0 small
      ∙ get_or-drop 2 (take leaf_length numbers) i 0
      ∙ get_or-take leaf_length numbers (2 + i) 0 (omega arith)
      ∙ sym (get_or-drop 2 numbers i 0)
      ∙ sym (get_or-take (length c.nodes) (drop 2 numbers) i 0 small))

  -- the same state
  state_first : (q : ℕ) → leaf_state c q (take leaf_length numbers) ≡ leaf_state c q numbers
  state_first q = ap (λ (vs : List ℕ). record { values = vs; changes = replicate (length c.nodes) q }) values_first

  -- and the same channels
  channels_first : leaf_channels c (take leaf_length numbers) ≡ leaf_channels c numbers
  channels_first =
      by_ext (is_kept (take leaf_length numbers)) (is_kept numbers) 0 c.transistors
      (λ j _ l. ap (λ (v : ℕ). eqb v 1) (get_or-take leaf_length numbers (26 + j) 0 (omega (arith, transistors_length net, cell.within.transistors))))

  -- they are ready for the walks
  pub first_ready : Ready net (take leaf_length numbers)
  first_ready = record {
    cell = cell;
    numbers = h.calm.leaf;
    charges = rw (state_first 0, channels_first) h.calm.charges;
  }

  -- and give the same next change
  pub first_settles : (time v : ℕ) → v ≡ cond (is_reached (net_circuit net) n numbers) (leaf_change net (take leaf_length numbers) time (pending_of time numbers) n) (pending_of time numbers) → v ≡ settled_at (net_circuit net) time n numbers
  unfolding settled_at
  first_settles time v e = e ∙ rw (state_first (pending_of time numbers), channels_first)
