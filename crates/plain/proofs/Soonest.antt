-- The earliest of some times, found from the last one to the first.
use mathlib.Core.Path.{◌≡◌, refl, sym, ◌∙◌, ap}
use mathlib.Core.List.{List, [], ◌∷◌, map}
use mathlib.Core.Bool.{cond}
use Prim.Native.Nat.{ℕ, zero, suc, ◌+◌, ◌-◌, ◌≤◌, ◌<◌, min}
use native.Mathlib.Omega.{arith}
use lib.ListN.{length, get_or, drop, length-take, length-drop, length-map}
use lib.Seq.{get_or-take, get_or-drop}
use lib.Dec.{ltb}
use Rattle.lists.proofs.Map.{map_at}
use Rattle.format.specs.declared.Entry.{Entry}
use Rattle.format.specs.Circuit.{no_entry}
use Rattle.diagram.specs.Table.{never}
use Rattle.rules.specs.Run.{soonest}
use Rattle.net.specs.Net.{time_place, at, net_circuit}
use Rattle.net.specs.Laid.{Laid}
use Rattle.net.proofs.Laying.{nodes_length, schedule_length, entry_at_lem}
use Rattle.plain.specs.Pattern.{of_nodes}

-- past the last there is none
pub soonest_past : (now : ℕ) (xs : List ℕ) (i : ℕ) → length xs ≡ i → soonest now (drop i xs) ≡ never
unfolding soonest
soonest_past now [] zero e = refl
soonest_past now [] (suc i) e = absurd (omega arith)
soonest_past now (x ∷ xs) zero e = absurd (omega arith)
soonest_past now (x ∷ xs) (suc i) e = soonest_past now xs i (omega arith)

soonest_at : (now : ℕ) (xs : List ℕ) (i : ℕ) → i < length xs → soonest now (drop i xs) ≡ min (cond (ltb now (get_or xs i 0)) (get_or xs i 0) never) (soonest now (drop (suc i) xs))
unfolding soonest
soonest_at now [] i h = absurd (omega arith)
soonest_at now (x ∷ xs) zero h = refl
soonest_at now (x ∷ xs) (suc i) h = soonest_at now xs i (omega arith)

-- one more in front
pub soonest_more : (now : ℕ) (xs : List ℕ) (i j x first v : ℕ) → j ≡ suc i → i < length xs → x ≡ get_or xs i 0 → first ≡ soonest now (drop j xs) → v ≡ min (cond (ltb now x) x never) first
    → v ≡ soonest now (drop i xs)
soonest_more now xs i j x first v e h q p r = r ∙ rw (q, p, e) (sym (soonest_at now xs i h))

module _ (net : List ℕ) (laid : Laid (net_circuit net) net) (changes : List ℕ) (long : length changes ≡ 26) where
  -- the next changes of the node records
  pub changes_length : length (of_nodes (net_circuit net) changes) ≡ at net 0
  changes_length = simp (length-take, length-drop) (omega (arith, long, nodes_length net, laid.within.nodes))

  pub changes_at : (n : ℕ) → 2 ≤ n → n < 2 + at net 0 → get_or changes n 0 ≡ get_or (of_nodes (net_circuit net) changes) (n - 2) 0
  changes_at n l h =
      let place : 2 + (n - 2) ≡ n = omega arith in
      sym (get_or-take (length (net_circuit net).nodes) (drop 2 changes) (n - 2) 0 (omega (arith, nodes_length net)) ∙ get_or-drop 2 changes (n - 2) 0 ∙ ap (λ (i : ℕ). get_or changes i 0) place)

module _ (net : List ℕ) where
  -- the times of the schedule
  pub times_length : length (map (λ (e : Entry). e.time.0) (net_circuit net).schedule) ≡ at net 2
  times_length = length-map (net_circuit net).schedule (λ (e : Entry). e.time.0) ∙ schedule_length net

  pub times_at : (i : ℕ) → i < at net 2 → at net (time_place + i) ≡ get_or (map (λ (e : Entry). e.time.0) (net_circuit net).schedule) i 0
  times_at i h =
      sym (map_at (λ (e : Entry). e.time.0) (net_circuit net).schedule no_entry 0 i (omega (arith, schedule_length net)) ∙ ap (λ (e : Entry). e.time.0) (entry_at_lem net i h))
