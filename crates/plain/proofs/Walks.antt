-- Node sum and delay walk as loops over a node's listed arms.
use mathlib.Core.Path.{◌≡◌, refl, ◌∙◌, ap}
use mathlib.Core.Bool.{Bool, true, false, ◌||◌, cond}
use mathlib.Core.Option.{Option, some}
use mathlib.Core.List.{List}
use Prim.Native.Nat.{ℕ, suc, ◌+◌, ◌-◌, ◌^◌, ◌≤◌, ◌<◌}
use native.Mathlib.Omega.{arith}
use lib.ListN.{length, get_or}
use lib.Dec.{eqb}
use Rattle.lists.proofs.Cases.{or_right}
use Rattle.units.specs.declared.Resistance.TheVariants.{Infinite}
use Rattle.units.specs.Range.{Positive}
use Rattle.units.proofs.Laws.{parallel_positive, arm_side_at_least}
use Rattle.format.specs.Circuit.{node_record}
use Rattle.rules.specs.State.{value_at, is_driven}
use Rattle.rules.specs.Kept.{Channel}
use Rattle.rules.specs.Sum.{Sum, far_end, own_sum, arm_of, join_sums}
use Rattle.rules.specs.Delay.{Load, own_load, load_arm, join_loads, is_end}
use Rattle.rules.proofs.Walk.{sum_arms, load_arms}
use Rattle.rules.proofs.Range.{total, sum_of_arm}
use Rattle.net.specs.Net.{nodes_place, transistors_place, at, net_transistor, net_circuit, net_arms}
use Rattle.net.proofs.Laying.{nodes_length}
use Rattle.plain.specs.Leaf.{is_kept, leaf_channels, leaf_state, from_of, net_channel, leaf_sum, leaf_load}
use Rattle.plain.specs.Ready.{Ready, Divided, Joinable, JoinableLoads}
use Rattle.plain.proofs.Cell.{leaf_value}
use Rattle.plain.proofs.Fold.{fold_arms, goes_on}
use Rattle.plain.proofs.Arms.{leaf_resistive, arms_fold}
use Rattle.plain.proofs.Charge.{sum_small, load_small}
use Rattle.plain.proofs.Turn.{Turn, turn_part, turn_joins}

-- no side is 0 ohms
pub record Sided (v : Sum) : Type 0 where
  pub high : Positive v.high
  pub low : Positive v.low

abbrev pub Led : Load → Type 0
Led v = Positive v.resistance

-- the arm of transistor i at node n, with an allowance for its far node
abbrev pub sum_arm : List ℕ → List ℕ → ℕ → ℕ → ℕ → Sum
sum_arm net leaf a n i = arm_of (net_transistor net i) (leaf_sum net leaf a (some i) (far_end n (net_channel net i)))

abbrev pub arm_load : List ℕ → List ℕ → ℕ → Bool → ℕ → ℕ → ℕ → Load
arm_load net leaf a sharing new n i = load_arm (net_transistor net i) (leaf_load net leaf a sharing new (some i) (far_end n (net_channel net i)))

-- a sum that exceeds the ceiling as a number
abbrev over : Sum → ℕ
over v = cond v.exceeds 1 0

over_grows : (a b : Bool) → cond a 1 0 ≤ cond (a || b) 1 0
over_grows true b = omega arith
over_grows false b = omega arith

over_true : (a : Bool) → 1 ≤ cond a 1 0 → a ≡ true
over_true true h = refl
over_true false h = absurd (omega arith)

-- the two loops
abbrev pub SumTurn : List ℕ → List ℕ → ℕ → ℕ → ℕ → ℕ → Sum → Type 0
SumTurn net leaf allowance from n k v =
    Turn Sided join_sums (sum_arm net leaf (allowance - 1) n) (goes_on (is_kept leaf) (from_of from)) (net_arms net n) (leaf_sum net leaf allowance (from_of from) n) k v

abbrev pub LoadTurn : List ℕ → List ℕ → ℕ → Bool → ℕ → ℕ → ℕ → ℕ → Load → Type 0
LoadTurn net leaf allowance sharing new from n k v =
    Turn Led join_loads (arm_load net leaf (allowance - 1) sharing new n) (goes_on (is_kept leaf) (from_of from)) (net_arms net n) (leaf_load net leaf allowance sharing new (from_of from) n) k v

-- sums that are not 0 ohms stay so where they are joined
pub joined_sided : (a b : Sum) → Joinable a b → Sided (join_sums a b)
joined_sided a b j = record { high = parallel_positive a.high b.high j.a_high j.b_high; low = parallel_positive a.low b.low j.a_low j.b_low }

pub joined_led : (a b : Load) → JoinableLoads a b → Led (join_loads a b)
joined_led a b j = parallel_positive a.resistance b.resistance j.a_positive j.b_positive

module _ (net leaf : List ℕ) (h : Ready net leaf) where
  node_in : (n : ℕ) → n < 2 + at net nodes_place → n < 2 + length (net_circuit net).nodes
  node_in n l = omega (arith, nodes_length net)

  -- the far end of a transistor is a node
  pub far_in : (n i : ℕ) → i < at net transistors_place → far_end n (net_channel net i) < 2 + at net nodes_place
  far_in n i g = by (eqb (net_transistor net i).first n)
    where
      by : (b : Bool) → cond b (net_transistor net i).second (net_transistor net i).first < 2 + at net nodes_place
      by true = (h.cell.within.transistor i g).second
      by false = (h.cell.within.transistor i g).first

  -- a node's value in the leaf
  pub value_here : (n : ℕ) → n < 2 + at net nodes_place → value_at (leaf_state (net_circuit net) 0 leaf) n ≡ get_or leaf n 0
  value_here n l = leaf_value (net_circuit net) leaf 0 h.numbers n (node_in n l)

  -- each side of a node's sum may be divided by the other
  pub sum_divided : (a : ℕ) (from : Option ℕ) (n : ℕ) → Divided (leaf_sum net leaf a from n)
  sum_divided a from n =
      let r = sum_of_arm (net_circuit net) (leaf_state (net_circuit net) 0 leaf) (leaf_channels (net_circuit net) leaf) (leaf_resistive net h.cell leaf) a from n in
      record { high = r.high_divides; low = r.low_divides }

  -- an arm's sides are not 0 ohms
  pub arm_sided : (a n i : ℕ) → i < at net transistors_place → Sided (sum_arm net leaf a n i)
  arm_sided a n i g =
      let r = (h.cell.within.transistor i g).least in
      record { high = arm_side_at_least 1 _ _ _ r; low = arm_side_at_least 1 _ _ _ r }

  pub arm_led : (a : ℕ) (sharing : Bool) (new n i : ℕ) → i < at net transistors_place → Led (arm_load net leaf a sharing new n i)
  arm_led a sharing new n i g = arm_side_at_least 1 _ _ Infinite (h.cell.within.transistor i g).least

  module _ (allowance from n : ℕ) (some_left : 1 ≤ allowance) (l : n < 2 + at net nodes_place) where
    one_less : allowance ≡ suc (allowance - 1)
    one_less = omega arith

    -- the loops begin with the node by itself
    pub sum_starts : is_driven (net_circuit net) n ≡ false → SumTurn net leaf allowance from n 0 (own_sum (node_record (net_circuit net) n).capacitance (get_or leaf n 0))
    sum_starts e = record {
      within = omega arith;
      good = record { high = tt; low = tt };
      rest =
          ap (λ (a : ℕ). leaf_sum net leaf a (from_of from) n) one_less
          ∙ sum_arms (net_circuit net) (leaf_state (net_circuit net) 0 leaf) (leaf_channels (net_circuit net) leaf) (allowance - 1) (from_of from) n e
          ∙ arms_fold net h.cell n l leaf (from_of from)
          (λ (v : Sum) (k : Channel). join_sums v (arm_of k.transistor (leaf_sum net leaf (allowance - 1) (some k.number) (far_end n k)))) _
          ∙ ap (λ (x : ℕ). fold_arms (goes_on (is_kept leaf) (from_of from)) (λ (v : Sum) (i : ℕ). join_sums v (sum_arm net leaf (allowance - 1) n i)) (own_sum (node_record (net_circuit net) n).capacitance x) (net_arms net n)) (value_here n l);
    }

    pub load_starts : (sharing : Bool) (new : ℕ) → is_end sharing new (net_circuit net) (leaf_state (net_circuit net) 0 leaf) n ≡ false → LoadTurn net leaf allowance sharing new from n 0 (own_load new (node_record (net_circuit net) n).capacitance (get_or leaf n 0))
    load_starts sharing new e = record {
      within = omega arith;
      good = tt;
      rest =
          ap (λ (a : ℕ). leaf_load net leaf a sharing new (from_of from) n) one_less
          ∙ load_arms (net_circuit net) (leaf_state (net_circuit net) 0 leaf) (leaf_channels (net_circuit net) leaf) sharing new (allowance - 1) (from_of from) n e
          ∙ arms_fold net h.cell n l leaf (from_of from)
          (λ (v : Load) (k : Channel). join_loads v (load_arm k.transistor (leaf_load net leaf (allowance - 1) sharing new (some k.number) (far_end n k)))) _
          ∙ ap (λ (x : ℕ). fold_arms (goes_on (is_kept leaf) (from_of from)) (λ (v : Load) (i : ℕ). join_loads v (arm_load net leaf (allowance - 1) sharing new n i)) (own_load new (node_record (net_circuit net) n).capacitance x) (net_arms net n)) (value_here n l);
    }

    module _ (k i : ℕ) (b : Bool) (g : k < length (net_arms net n)) (at-k : i ≡ get_or (net_arms net n) k 0) (is_one : i < at net transistors_place)
        (test : b ≡ goes_on (is_kept leaf) (from_of from) i) (goes : b ≡ true) where
      -- what comes of an arm may be joined
      pub sum_joins : (v : Sum) → SumTurn net leaf allowance from n k v → Joinable v (sum_arm net leaf (allowance - 1) n i)
      sum_joins v t =
          let whole : total (leaf_sum net leaf allowance (from_of from) n) < 2 ^ 31 = sum_small _ _ _ h.charges (from_of from) n (node_in n l) allowance in
          let part : total (join_sums v (sum_arm net leaf (allowance - 1) n i)) ≤ total (leaf_sum net leaf allowance (from_of from) n) =
          turn_part t g i at-k b test goes total (λ w j. omega arith) in
          let one : Sided (sum_arm net leaf (allowance - 1) n i) = arm_sided (allowance - 1) n i is_one in
          record {
            a_high = t.good.high;
            a_low = t.good.low;
            b_high = one.high;
            b_low = one.low;
            high_fits = omega arith;
            low_fits = omega arith;
          }

      -- one that exceeds the ceiling makes the node's sum exceed it
      pub sum_exceeds : (v : Sum) → SumTurn net leaf allowance from n k v → (sum_arm net leaf (allowance - 1) n i).exceeds ≡ true → (leaf_sum net leaf allowance (from_of from) n).exceeds ≡ true
      sum_exceeds v t e =
          let part : over (join_sums v (sum_arm net leaf (allowance - 1) n i)) ≤ over (leaf_sum net leaf allowance (from_of from) n) =
          turn_part t g i at-k b test goes over (λ w j. over_grows w.exceeds (sum_arm net leaf (allowance - 1) n j).exceeds) in
          over_true (leaf_sum net leaf allowance (from_of from) n).exceeds
          (rw (or_right v.exceeds (sum_arm net leaf (allowance - 1) n i).exceeds e) at part)

      -- and then the loop is one arm further
      pub sum_turns : (v : Sum) → SumTurn net leaf allowance from n k v → SumTurn net leaf allowance from n (k + 1) (join_sums v (sum_arm net leaf (allowance - 1) n i))
      sum_turns v t = turn_joins t g i at-k b test goes (joined_sided v _ (sum_joins v t))

      pub load_joins : (sharing : Bool) (new : ℕ) (v : Load) → LoadTurn net leaf allowance sharing new from n k v → JoinableLoads v (arm_load net leaf (allowance - 1) sharing new n i)
      load_joins sharing new v t =
          let whole : (leaf_load net leaf allowance sharing new (from_of from) n).charge.0 < 2 ^ 31 = load_small _ _ _ h.charges (from_of from) n (node_in n l) allowance sharing new in
          let part : (join_loads v (arm_load net leaf (allowance - 1) sharing new n i)).charge.0 ≤ (leaf_load net leaf allowance sharing new (from_of from) n).charge.0 =
          turn_part t g i at-k b test goes (λ (w : Load). w.charge.0) (λ w j. omega arith) in
          record { a_positive = t.good; b_positive = arm_led (allowance - 1) sharing new n i is_one; fits = omega arith }

      pub load_turns : (sharing : Bool) (new : ℕ) (v : Load) → LoadTurn net leaf allowance sharing new from n k v → LoadTurn net leaf allowance sharing new from n (k + 1) (join_loads v (arm_load net leaf (allowance - 1) sharing new n i))
      load_turns sharing new v t = turn_joins t g i at-k b test goes (joined_led v _ (load_joins sharing new v t))
