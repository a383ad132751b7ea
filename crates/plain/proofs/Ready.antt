-- A column that lays out a cell, and the leaf of a pattern, are what the walks ask.
use mathlib.Core.Path.{◌≡◌, sym, ◌∙◌, subst}
use mathlib.Core.List.{List}
use Prim.Native.Nat.{ℕ, ◌+◌, ◌≤◌, ◌<◌}
use native.Mathlib.Omega.{arith}
use lib.ListN.{length, get_or, take, drop, length-take, length-drop}
use lib.Seq.{ext_get_or, get_or-take, get_or-drop}
use Rattle.format.specs.Circuit.{Circuit}
use Rattle.format.proofs.Legal.{legal_cell}
use Rattle.rules.specs.State.{State}
use Rattle.net.specs.Net.{at, net_circuit}
use Rattle.net.specs.Laid.{Laid}
use Rattle.net.proofs.Laying.{nodes_length}
use Rattle.plain.specs.Leaf.{leaf_state}
use Rattle.plain.specs.Ready.{Ranged, Ready}
use Rattle.plain.proofs.Meet.{kept_ranged}
use Rattle.plain.specs.Shown.{Column}
use Rattle.plain.specs.Leaves.{KeptLeaf}

-- the leaf shows a state's values if the column does
pub leaf_shows : (net values leaf : List ℕ) → Laid (net_circuit net) net → Column values → KeptLeaf net values leaf → take (length (net_circuit net).nodes) (drop 2 leaf) ≡ take (length (net_circuit net).nodes) (drop 2 values)
leaf_shows net values leaf laid w leaf-is =
    let few = laid.within.nodes in
    let n = nodes_length net in
    ext_get_or 0 (take (length (net_circuit net).nodes) (drop 2 leaf)) (take (length (net_circuit net).nodes) (drop 2 values)) (simp (length-take, length-drop) (omega (arith, leaf-is.long, w.long)))
    (λ i h.
    let l : i < length (net_circuit net).nodes = omega (arith, length-take (length (net_circuit net).nodes) (drop 2 leaf)) in
    get_or-take (length (net_circuit net).nodes) (drop 2 leaf) i 0 l ∙ get_or-drop 2 leaf i 0 ∙ leaf-is.same (2 + i) (omega arith)
    ∙ sym (get_or-take (length (net_circuit net).nodes) (drop 2 values) i 0 l ∙ get_or-drop 2 values i 0))

-- the leaf of bits is ready for the walks
pub kept_ready : (net values leaf : List ℕ) → Laid (net_circuit net) net → Column values → ((n : ℕ) → n < 2 + at net 0 → get_or values n 0 ≤ 1) → KeptLeaf net values leaf → Ready net leaf
kept_ready net values leaf laid w bits leaf-is =
    let c : Circuit = net_circuit net in
    let few = laid.within.nodes in
    let s : State = leaf_state c 0 leaf in
    record {
      cell = laid;
      numbers = record {
        long = leaf-is.long;
        ground = leaf-is.same 0 (omega arith) ∙ w.ground;
        supply = leaf-is.same 1 (omega arith) ∙ w.supply;
        bits = λ n h. let l : n < 2 + at net 0 = omega (arith, nodes_length net) in rw (leaf-is.same n (omega arith)) (bits n l);
      };
      charges = subst (Ranged c s) (sym (leaf-is.channels s (leaf_shows net values leaf laid w leaf-is))) (kept_ranged c (legal_cell laid.legal) s);
    }
