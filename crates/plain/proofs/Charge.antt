-- The walks' charges fit where those from any node do, and two may be joined on the way.
use mathlib.Core.Path.{◌≡◌, refl, ap}
use mathlib.Core.Logic.{⊎_elim}
use mathlib.Core.Bool.{Bool, true, false, not, ◌||◌, cond}
use mathlib.Core.Option.{Option, some, none}
use mathlib.Core.List.{List, [], ◌∷◌}
use Prim.Native.Nat.{ℕ, zero, suc, ◌+◌, ◌^◌, ◌≤◌, ◌<◌}
use native.Mathlib.Omega.{arith}
use lib.ListN.{length}
use lib.Dec.{eqb}
use Rattle.lists.proofs.Cases.{bool_cases, and_right}
use Rattle.format.specs.Circuit.{Circuit, node_record}
use Rattle.rules.specs.State.{State, value_at, is_driven}
use Rattle.rules.specs.Kept.{Channel}
use Rattle.rules.specs.Sum.{Sum, is_the, leads, far_end, over_arms, own_sum, arm_of, join_sums, node_sum}
use Rattle.rules.specs.Delay.{Load, own_load, load_arm, join_loads, is_end, node_load}
use Rattle.rules.proofs.Walk.{sum_driven, sum_arms, load_end, load_arms}
use Rattle.rules.proofs.Range.{total}
use Rattle.plain.specs.Ready.{Ranged}

module _ {A : Type 0} (away more : Channel → Bool) (wider : (k : Channel) → away k ≡ true → more k ≡ true)
    (add : A → Channel → A) (m : A → ℕ) (part : Channel → ℕ) (adds : (v : A) (k : Channel) → m (add v k) ≡ m v + part k) where
  -- fewer arms come to no more
  arms_fewer : (ks : List Channel) (v w : A) → m v ≤ m w → m (over_arms away add v ks) ≤ m (over_arms more add w ks)
  unfolding over_arms
  arms_fewer [] v w h = h
  arms_fewer (k ∷ ks) v w h = arms_fewer ks (cond (away k) (add v k) v) (cond (more k) (add w k) w) (by (away k) (more k) (wider k))
    where
      by : (a b : Bool) → (a ≡ true → b ≡ true) → m (cond a (add v k) v) ≤ m (cond b (add w k) w)
      by true true q = omega (arith, adds v k, adds w k)
      by true false q = let z : ◌≡◌ {A = Bool} false true = q refl in absurd (apart z)
        where
          apart : ◌≡◌ {A = Bool} false true → ⊥
          apart e = let z : ◌≡◌ {A = ℕ} 0 1 = cc in omega arith
      by false true q = omega (arith, adds w k)
      by false false q = h

-- any channel that leads away does so where the node was not reached by one
leads_root : (from : Option ℕ) (n : ℕ) (k : Channel) → leads from n k ≡ true → leads none n k ≡ true
leads_root from n k e = and_right (not (is_the from k.number)) (eqb k.transistor.first n || eqb k.transistor.second n) e

module _ (c : Circuit) (s : State) (ks : List Channel) (h : Ranged c s ks) (from : Option ℕ) (n : ℕ) (l : n < 2 + length c.nodes) where
  -- the charges of a node sum, from wherever the node was reached
  pub sum_small : (a : ℕ) → total (node_sum a c s ks from n) < 2 ^ 31
  unfolding node_sum
  sum_small zero = h.sums zero n l
  sum_small (suc a) =
      ⊎_elim
      (λ (e : is_driven c n ≡ true). rw (sum_driven c s ks (suc a) from n e) (omega arith))
      (λ (e : is_driven c n ≡ false).
      omega (
        arith,
        arms_fewer (leads from n) (leads none n) (leads_root from n)
            (λ (v : Sum) (k : Channel). join_sums v (arm_of k.transistor (node_sum a c s ks (some k.number) (far_end n k)))) total (λ (k : Channel). total (node_sum a c s ks (some k.number) (far_end n k))) (λ v k. omega arith)
            ks (own_sum (node_record c n).capacitance (value_at s n)) (own_sum (node_record c n).capacitance (value_at s n)) (omega arith),
        ap total (sum_arms c s ks a from n e),
        ap total (sum_arms c s ks a none n e),
        h.sums (suc a) n l,
      ))
      (bool_cases (is_driven c n))

  -- the charge of a delay walk
  pub load_small : (a : ℕ) (sharing : Bool) (new : ℕ) → (node_load a sharing new c s ks from n).charge.0 < 2 ^ 31
  unfolding node_load
  load_small zero sharing new = h.loads zero sharing new n l
  load_small (suc a) sharing new =
      let charge : Load → ℕ = λ v. v.charge.0 in
      ⊎_elim
      (λ (e : is_end sharing new c s n ≡ true). rw (load_end c s ks sharing new (suc a) from n e) (omega arith))
      (λ (e : is_end sharing new c s n ≡ false).
      omega (
        arith,
        arms_fewer (leads from n) (leads none n) (leads_root from n)
            (λ (v : Load) (k : Channel). join_loads v (load_arm k.transistor (node_load a sharing new c s ks (some k.number) (far_end n k)))) charge (λ (k : Channel). (load_arm k.transistor (node_load a sharing new c s ks (some k.number) (far_end n k))).charge.0) (λ v k. refl)
            ks (own_load new (node_record c n).capacitance (value_at s n)) (own_load new (node_record c n).capacitance (value_at s n)) (omega arith),
        ap charge (load_arms c s ks sharing new a from n e),
        ap charge (load_arms c s ks sharing new a none n e),
        h.loads (suc a) sharing new n l,
      ))
      (bool_cases (is_end sharing new c s n))
