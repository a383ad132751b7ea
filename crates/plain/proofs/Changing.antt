-- The next change of a node of a leaf, by its cases, and that its delay fits 55 bits.
use mathlib.Core.Path.{◌≡◌, refl, ap, ap₂}
use mathlib.Core.Bool.{Bool, true, false, cond}
use mathlib.Core.Option.{none}
use mathlib.Core.List.{List}
use Prim.Native.Nat.{ℕ, ◌+◌, ◌^◌, ◌<◌, min}
use native.Mathlib.Omega.{arith}
use lib.ListN.{length, get_or}
use lib.Dec.{leb}
use borrow.Author.Tests.{eq-eqb, ne_eqb}
use Rattle.units.specs.declared.Resistance.{Resistance}
use Rattle.units.specs.declared.Resistance.TheVariants.{Infinite, Finite}
use Rattle.units.specs.Range.{AtMost}
use Rattle.units.specs.Rules.{ceiling}
use Rattle.units.proofs.Laws.{delay_within}
use Rattle.rules.specs.State.{value_at}
use Rattle.rules.specs.Sum.{undriven, new_value}
use Rattle.rules.specs.Delay.{in_ohms}
use Rattle.rules.specs.Step.{target, exceeds, delay_by, delay_to, next_change}
use Rattle.net.specs.Net.{nodes_place, horizon_place, at, net_circuit}
use Rattle.net.proofs.Laying.{nodes_length, horizon_at}
use Rattle.std.specs.Prelude.{Result, Ok, Err, IsErr}
use Rattle.units.specs.declared.AboveCeiling.{AboveCeiling}
use Rattle.plain.specs.Leaf.{leaf_channels, leaf_state, leaf_sum, leaf_load, leaf_target, leaf_delay, leaf_exceeds, leaf_move, leaf_next}
use Rattle.plain.specs.Ready.{Ready, Noded}
use Rattle.plain.proofs.Cell.{leaf_value, leaf_change_lem}
use Rattle.plain.proofs.Arms.{leaf_load_most}
use Rattle.plain.proofs.Charge.{load_small}
use Rattle.plain.proofs.Same.{same_target, same_delay}
use Rattle.plain.proofs.Walks.{value_here}

module _ (net leaf : List ℕ) (h : Ready net leaf) (n : ℕ) (l : n < 2 + at net nodes_place) where
  -- the allowance is one for each node record
  pub target_sum : leaf_target net leaf n ≡ new_value (leaf_sum net leaf (at net nodes_place) none n) (get_or leaf n 0)
  unfolding target
  target_sum = ap₂ (λ (a value : ℕ). new_value (leaf_sum net leaf a none n) value) (nodes_length net) (value_here net leaf h n l)

  pub exceeds_sum : leaf_exceeds net leaf n ≡ (leaf_sum net leaf (at net nodes_place) none n).exceeds
  unfolding exceeds
  exceeds_sum = ap (λ (a : ℕ). (leaf_sum net leaf a none n).exceeds) (nodes_length net)

  pub delay_small : (sharing : Bool) (new : ℕ) → leaf_delay net leaf sharing new n < 2 ^ 55
  unfolding delay_by
  delay_small sharing new =
      let load = leaf_load net leaf (length (net_circuit net).nodes) sharing new none n in
      let small = load_small _ _ _ h.charges none n (omega (arith, nodes_length net)) (length (net_circuit net).nodes) sharing new in
      delay_within (in_ohms load.resistance) load.charge
      (ohms_fit load.resistance (leaf_load_most net h.cell leaf (length (net_circuit net).nodes) sharing new none n (omega (arith, nodes_length net, h.cell.within.nodes))))
      (omega (arith, small))
    where
      ohms_fit : (r : Resistance) → AtMost ceiling r → (in_ohms r).0 < 2 ^ 32
      ohms_fit Infinite p = omega arith
      ohms_fit (Finite r) p = omega arith

module _ (net leaf : List ℕ) (ready : Ready net leaf) (n : ℕ) (k : Noded net n) (time pending : ℕ) where
  value_pending : value_at (leaf_state (net_circuit net) pending leaf) n ≡ get_or leaf n 0
  value_pending = leaf_value (net_circuit net) leaf pending ready.numbers n (omega (arith, nodes_length net, k.most))

  -- a node that goes to its own value has no next change
  pub next_keeps : leaf_target net leaf n ≡ get_or leaf n 0 → leaf_move net leaf time pending n ≡ 4294967295
  unfolding next_change
  next_keeps e = rw (same_target (net_circuit net) (leaf_state (net_circuit net) pending leaf) (leaf_state (net_circuit net) 0 leaf) (leaf_channels (net_circuit net) leaf) refl n, value_pending, eq-eqb _ _ e)

  -- any other changes at the earlier of its pending time and T + delay, up to the horizon
  pub next_moves : (leaf_target net leaf n ≡ get_or leaf n 0 → ⊥)
      → let first = min pending (time + leaf_delay net leaf (undriven (leaf_sum net leaf (at net nodes_place) none n)) (leaf_target net leaf n) n) in
      leaf_move net leaf time pending n ≡ cond (leb first (at net horizon_place)) first 4294967295
  unfolding next_change delay_to
  next_moves e =
      rw (
        same_target (net_circuit net) (leaf_state (net_circuit net) pending leaf) (leaf_state (net_circuit net) 0 leaf) (leaf_channels (net_circuit net) leaf) refl n,
        value_pending,
        ne_eqb _ _ e,
        same_delay (net_circuit net) (leaf_state (net_circuit net) pending leaf) (leaf_state (net_circuit net) 0 leaf) (leaf_channels (net_circuit net) leaf) refl (leaf_target net leaf n) n,
        leaf_change_lem (net_circuit net) leaf pending n k.least (omega (arith, nodes_length net, k.most)),
        horizon_at net,
        nodes_length net,
      )

  -- as an answer: that it exceeds the ceiling
  pub next_exceeds : (leaf_sum net leaf (at net nodes_place) none n).exceeds ≡ true → (r : Result ℕ AboveCeiling) → IsErr r → r ≡ leaf_next net leaf time pending n
  next_exceeds e (Ok v) h = let z : false ≡ true = h in cc
  next_exceeds e (Err x) h = rw (exceeds_sum net leaf ready n k.most, e)

  -- or its next change
  pub next_at_lem : (leaf_sum net leaf (at net nodes_place) none n).exceeds ≡ false → {v : ℕ} → v ≡ leaf_move net leaf time pending n → Ok v ≡ leaf_next net leaf time pending n
  next_at_lem e p = rw (exceeds_sum net leaf ready n k.most, e) (ap Ok p)
