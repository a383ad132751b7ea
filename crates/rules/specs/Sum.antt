-- Step rules 4 and 5: node sum, arm, and the new value; with document 02's wish 3: whether the sum has met the ceiling.
use Rattle.std.specs.Prelude.{ℕ, zero, suc, List, [], ◌∷◌, Bool, true, false, not, ◌&&◌, ◌||◌, cond, ltb, eqb}
use Rattle.std.proofs.Math.Option.{Option, some, none}
use Rattle.units.specs.declared.Femtofarads.{Femtofarads}
use Rattle.units.specs.declared.Resistance.{Resistance}
use Rattle.units.specs.declared.Resistance.TheVariants.{Infinite, Finite}
use Rattle.units.specs.Units.{ohms, femtofarads}
use Rattle.units.specs.Rules as units
use Rattle.format.specs.declared.Transistor.{Transistor}
use Rattle.format.specs.Circuit.{Circuit, node_record}
use Rattle.rules.specs.State.{State, value_at, is_driven}
use Rattle.rules.specs.Kept.{Channel}

-- resistances to high and to low, the charge on either side, and whether a side of some arm of the walk is above the ceiling (wish 3)
pub record Sum : Type 0 where
  pub high : Resistance
  pub low : Resistance
  pub high_charge : Femtofarads
  pub low_charge : Femtofarads
  pub exceeds : Bool

-- the transistor by which a node was reached; none at the node that the walk is for
abbrev pub is_the : Option ℕ → ℕ → Bool
is_the none i = false
is_the (some j) i = eqb i j

-- the channel leads away from node n, and is not the one by which n was reached
abbrev pub leads : Option ℕ → ℕ → Channel → Bool
leads from n k =
    not (is_the from k.number) && (eqb k.transistor.first n || eqb k.transistor.second n)

-- the other end of a channel
abbrev pub far_end : ℕ → Channel → ℕ
far_end n k = cond (eqb k.transistor.first n) k.transistor.second k.transistor.first

-- what the channels that lead away from a node add to what it has itself, by rising number
unfoldable pub over_arms : {A : Type 0} → (Channel → Bool) → (A → Channel → A) → A → List Channel → A
over_arms leads join own [] = own
over_arms leads join own (k ∷ ks) = over_arms leads join (cond (leads k) (join own k) own) ks

-- a driven end: resistance 0 to its own value, infinite to the other, and no charge
abbrev pub driven_sum : ℕ → Sum
driven_sum value = record {
  high = cond (eqb value 1) (Finite (ohms 0)) Infinite;
  low = cond (eqb value 1) Infinite (Finite (ohms 0));
  high_charge = femtofarads 0;
  low_charge = femtofarads 0;
  exceeds = false;
}

-- an inner node by itself: its capacitance on the side of its value
abbrev pub own_sum : Femtofarads → ℕ → Sum
own_sum capacitance value = record {
  high = Infinite;
  low = Infinite;
  high_charge = cond (eqb value 1) capacitance (femtofarads 0);
  low_charge = cond (eqb value 1) (femtofarads 0) capacitance;
  exceeds = false;
}

-- an arm: the transistor's resistance before the far node's sum, both sides of the sum as it was. Either side counts against the ceiling,
-- and what lies behind is passed on.
abbrev pub arm_of : Transistor → Sum → Sum
arm_of t far = record {
  high = units.arm_side t.resistance far.high far.low;
  low = units.arm_side t.resistance far.low far.high;
  high_charge = far.high_charge;
  low_charge = far.low_charge;
  exceeds =
      far.exceeds
      || units.above (units.arm_side t.resistance far.high far.low)
      || units.above (units.arm_side t.resistance far.low far.high);
}

abbrev pub join_sums : Sum → Sum → Sum
join_sums a b = record {
  high = units.parallel a.high b.high;
  low = units.parallel a.low b.low;
  high_charge = units.joined a.high_charge b.high_charge;
  low_charge = units.joined a.low_charge b.low_charge;
  exceeds = a.exceeds || b.exceeds;
}

-- The sum of node n reached by a channel, over the kept channels. The allowance is the number of inner nodes not yet passed;
-- one for every node record is enough (law `allowance-enough`), so it is no rule of its own.
unfoldable pub node_sum : ℕ → Circuit → State → List Channel → Option ℕ → ℕ → Sum
node_sum zero c s ks from n = cond (is_driven c n) (driven_sum (value_at s n)) (own_sum (node_record c n).capacitance (value_at s n))
node_sum (suc allowance) c s ks from n =
    cond (is_driven c n)
    (driven_sum (value_at s n))
    (over_arms (leads from n)
    (λ (sum : Sum) (k : Channel). join_sums sum (arm_of k.transistor (node_sum allowance c s ks (some k.number) (far_end n k))))
    (own_sum (node_record c n).capacitance (value_at s n))
    ks)

abbrev pub infinite : Resistance → Bool
infinite Infinite = true
infinite (Finite r) = false

abbrev pub less : Resistance → Resistance → Bool
less Infinite b = false
less (Finite a) Infinite = true
less (Finite a) (Finite b) = ltb a.0 b.0

-- Rule 5: the larger side decides; equality keeps the present value
abbrev pub decided : Bool → Bool → ℕ → ℕ
decided goesHigh goesLow present = cond goesHigh 1 (cond goesLow 0 present)

-- Rules 5 and 6: neither side drives, so that charge decides
abbrev pub undriven : Sum → Bool
undriven sum = infinite sum.high && infinite sum.low

-- Rule 5: the new value
unfoldable pub new_value : Sum → ℕ → ℕ
new_value sum present =
    cond (undriven sum)
    (decided (ltb sum.low_charge.0 sum.high_charge.0) (ltb sum.high_charge.0 sum.low_charge.0) present)
    (decided (less sum.high sum.low) (less sum.low sum.high) present)
