-- Laws of the values that a column shows.
use mathlib.Core.Path.{◌≡◌, sym, ◌∙◌, ap, ap₂}
use mathlib.Core.Logic.{⊎_elim}
use mathlib.Core.Bool.{not}
use mathlib.Core.List.{List}
use Prim.Native.Nat.{ℕ, zero, suc, ◌+◌, ◌-◌, ◌≤◌, ◌<◌}
use native.Mathlib.Omega.{arith}
use lib.ListN.{length, get_or, drop}
use lib.Seq.{get_or-take, get_or-drop}
use Rattle.std.proofs.lemmas.List.{get_or-append_right}
use Rattle.std.proofs.Math.ListN.{get_or-append}
use Rattle.std.proofs.Common.{◌++◌, length-append, length-drop}
use Rattle.net.specs.Written.{Row}
use lib.Dec.{eqb}
use Rattle.lists.proofs.Cases.{lt_or_ge}
use Rattle.format.specs.declared.Transistor.{Transistor}
use Rattle.format.specs.Circuit.{Circuit, no_transistor}
use Rattle.rules.specs.State.{State, value_at}
use Rattle.rules.specs.Arrive.{changed}
use Rattle.rules.specs.Reach.{disturbed}
use Rattle.rules.proofs.State.{rail_value, value_place}
use Rattle.net.specs.Net.{at, net_circuit}
use Rattle.net.specs.Laid.{Laid, TransistorWithin}
use Rattle.net.proofs.Laying.{nodes_length, transistors_length, transistor_at_lem}
use Rattle.plain.specs.Shown.{Column, Shows, changed_at, disturbed_at}

rail_shown : (column : List ℕ) → Column column → (n : ℕ) → n < 2 → n ≡ get_or column n 0
rail_shown column w zero h = sym w.ground
rail_shown column w (suc zero) h = sym w.supply
rail_shown column w (suc (suc n)) h = absurd (omega arith)

-- a node's value stands at its number
pub value_shown : (c : Circuit) (column : List ℕ) (s : State) → Column column → Shows c column s → (n : ℕ) → n < 2 + length c.nodes → value_at s n ≡ get_or column n 0
value_shown c column s w shows n h =
    ⊎_elim
    (λ (g : n < 2). rail_value s n g ∙ rail_shown column w n g)
    (λ (g : 2 ≤ n).
    let place : 2 + (n - 2) ≡ n = omega arith in
    value_place s n g ∙ ap (λ (xs : List ℕ). get_or xs (n - 2) 0) shows ∙ get_or-take (length c.nodes) (drop 2 column) (n - 2) 0 (omega arith) ∙ get_or-drop 2 column (n - 2) 0
    ∙ ap (λ (i : ℕ). get_or column i 0) place)
    (lt_or_ge n 2)

module _ (c : Circuit) (before after : List ℕ) (s t : State) (wb : Column before) (wa : Column after) (sb : Shows c before s) (sa : Shows c after t) where
  changed_shown : (n : ℕ) → n < 2 + length c.nodes → changed s t n ≡ changed_at before after n
  changed_shown n h = ap₂ (λ (x y : ℕ). not (eqb x y)) (value_shown c before s wb sb n h) (value_shown c after t wa sa n h)

  pub disturbed_shown : (u : Transistor) → u.gate < 2 + length c.nodes → u.first < 2 + length c.nodes → u.second < 2 + length c.nodes → disturbed c s t u ≡ disturbed_at c before after u
  disturbed_shown u g a b = rw (changed_shown u.gate g, changed_shown u.first a, changed_shown u.second b)

-- the transistors of a column that lays out a cell, by number
pub wired : (net : List ℕ) → Laid (net_circuit net) net → (i : ℕ) → i < length (net_circuit net).transistors → TransistorWithin (length (net_circuit net).nodes) (get_or (net_circuit net).transistors i no_transistor)
wired net laid i h =
    let g : i < at net 1 = omega (arith, transistors_length net) in
    rw (nodes_length net, transistor_at_lem net i g) (laid.within.transistor i g)

-- values copied to the front of a leaf
pub row_copied : (leaf values : List ℕ) → 26 ≤ length leaf → length values ≡ 26 → Row 0 26 (λ (n : ℕ). get_or values n 0) leaf (values ++ drop 26 leaf)
row_copied leaf values most long = record {
  rest = record {
    long = simp (length-append, length-drop) (omega arith);
    below = λ i h. absurd (omega arith);
    above = λ i h.
        let place : 26 + (i - 26) ≡ i = omega arith in
        get_or-append_right values (drop 26 leaf) 26 i 0 long h ∙ get_or-drop 26 leaf (i - 26) 0 ∙ ap (λ (k : ℕ). get_or leaf k 0) place;
  };
  each = λ i h. let place : 0 + i ≡ i = omega arith in rw place (get_or-append values (drop 26 leaf) 0 i (omega arith));
}
