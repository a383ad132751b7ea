-- Laws of columns that are filled by node number, and of the states that they show.
use mathlib.Core.Path.{◌≡◌, refl, ◌∙◌, ap}
use mathlib.Core.Logic.{⊎_elim}
use mathlib.Core.List.{List, [], ◌∷◌, map}
use Prim.Native.Nat.{ℕ, zero, suc, ◌+◌, ◌-◌, ◌≤◌, ◌<◌}
use native.Mathlib.Omega.{arith}
use lib.ListN.{length, get_or, drop, set, replicate, length-take, length-drop, length-set}
use lib.Seq.{get_or-take, get_or-drop, get_or-set_same, get_or-set_other}
use Rattle.lists.proofs.Cases.{lt_or_ge}
use Rattle.format.specs.Circuit.{Circuit}
use Rattle.diagram.specs.Table.{never}
use Rattle.rules.specs.State.{change_at, node_numbers}
use Rattle.rules.proofs.State.{Numbered, numbers_eta, change_place_lem}
use Rattle.net.specs.Net.{at, net_circuit}
use Rattle.net.specs.Laid.{Laid}
use Rattle.net.proofs.Laying.{nodes_length}
use Rattle.plain.specs.Shown.{Column}
use Rattle.plain.specs.Pattern.{of_nodes, shown_by, Filled}

-- The loop that fills a column: before it the rails alone are filled.
pub values_none : (f : ℕ → ℕ) → Filled 0 1 f 2 (set (replicate 26 0) 1 1)
values_none f = record { long = refl; ground = refl; supply = refl; each = λ n l h. absurd (omega arith) }

pub changes_none : (f : ℕ → ℕ) → Filled never never f 2 (replicate 26 never)
changes_none f = record { long = refl; ground = refl; supply = refl; each = λ n l h. absurd (omega arith) }

module _ {low high : ℕ} {f : ℕ → ℕ} {n : ℕ} {column : List ℕ} (w : Filled low high f n column) where
  -- one node more
  pub filled_more : (v : ℕ) → 2 ≤ n → n < 26 → v ≡ f n → Filled low high f (n + 1) (set column n v)
  filled_more v least most e = record {
    long = length-set column n v ∙ w.long;
    ground = get_or-set_other column n 0 v 0 (omega arith) ∙ w.ground;
    supply = get_or-set_other column n 1 v 0 (omega arith) ∙ w.supply;
    each = each;
  }
    where
      each : (j : ℕ) → 2 ≤ j → j < n + 1 → get_or (set column n v) j 0 ≡ f j
      each j l h =
          ⊎_elim
          (λ (g : j < n). get_or-set_other column n j v 0 (omega arith) ∙ w.each j l g)
          (λ (g : n ≤ j).
          let same : j ≡ n = omega arith in
          rw same (get_or-set_same column n v 0 (omega (arith, w.long)) ∙ e))
          (lt_or_ge j n)

-- the rails' values
pub filled_column : {f : ℕ → ℕ} {past : ℕ} {column : List ℕ} → Filled 0 1 f past column → Column column
filled_column w = record { long = w.long; ground = w.ground; supply = w.supply }

-- a place of a list has what stands there, whatever is read past its end
within_any : (xs : List ℕ) (i d e : ℕ) → i < length xs → get_or xs i d ≡ get_or xs i e
within_any [] i d e h = absurd (omega arith)
within_any (x ∷ xs) zero d e h = refl
within_any (x ∷ xs) (suc i) d e h = within_any xs i d e (omega arith)

module _ (net : List ℕ) (laid : Laid (net_circuit net) net) where
  abbrev c : Circuit
  c = net_circuit net

  few : length c.nodes ≤ 24
  few = omega (arith, nodes_length net, laid.within.nodes)

  -- the node records of a filled column
  pub filled_shown : {low high : ℕ} {f : ℕ → ℕ} {column : List ℕ} → Filled low high f (2 + at net 0) column → of_nodes (net_circuit net) column ≡ map f (node_numbers (net_circuit net))
  filled_shown {low} {high} {f} {column} w =
      numbers_eta c f 0 (of_nodes c column) (simp (length-take, length-drop) (omega (arith, w.long, few)))
      (λ n h.
      let place : 2 + (n - 2) ≡ n = omega (arith, h.least) in
      get_or-take (length c.nodes) (drop 2 column) (n - 2) 0 (omega (arith, h.least, h.most))
      ∙ get_or-drop 2 column (n - 2) 0
      ∙ ap (λ (i : ℕ). get_or column i 0) place
      ∙ w.each n h.least (omega (arith, nodes_length net, h.most)))

  -- bits, where all that is filled in is
  pub filled_bits : {f : ℕ → ℕ} {column : List ℕ} → Filled 0 1 f (2 + at net 0) column → ((n : ℕ) → 2 ≤ n → n < 2 + at net 0 → f n ≤ 1)
      → (n : ℕ) → n < 2 + at net 0 → get_or column n 0 ≤ 1
  filled_bits {f} {column} w bits n h = ⊎_elim (λ (g : n < 2). rail n g) (λ (g : 2 ≤ n). rw (w.each n g h) (bits n g h)) (lt_or_ge n 2)
    where
      rail : (m : ℕ) → m < 2 → get_or column m 0 ≤ 1
      rail zero g = omega (arith, w.ground)
      rail (suc zero) g = omega (arith, w.supply)
      rail (suc (suc m)) g = absurd (omega arith)

  -- a node's next change stands at its number
  pub change_shown : (values changes : List ℕ) → length changes ≡ 26 → (n : ℕ) → Numbered (net_circuit net) n → change_at (shown_by (net_circuit net) values changes) n ≡ get_or changes n 0
  change_shown values changes long n h =
      let place : 2 + (n - 2) ≡ n = omega (arith, h.least) in
      change_place_lem (shown_by c values changes) n h.least
      ∙ get_or-take (length c.nodes) (drop 2 changes) (n - 2) never (omega (arith, h.least, h.most))
      ∙ get_or-drop 2 changes (n - 2) never
      ∙ ap (λ (i : ℕ). get_or changes i never) place
      ∙ within_any changes n never 0 (omega (arith, few, h.most))
