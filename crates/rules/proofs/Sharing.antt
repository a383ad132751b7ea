-- Rule 6 where charge is shared (document 02, wish 6): a node that changes while neither side drives it has a node in its kept tree that already
-- holds the new value. So the resistance of its delay walk is finite, as it is where a side drives, and the rule never runs empty.
use mathlib.Core.Path.{◌≡◌, refl, sym, ◌∙◌, ap, subst}
use mathlib.Core.Logic.{◌⊎◌, inl, inr, ⊎_elim}
use mathlib.Core.Bool.{Bool, true, false, ◌&&◌, ◌||◌}
use mathlib.Core.Option.{Option, none}
use mathlib.Core.List.Memᴰ
use mathlib.Core.List.{List, [], ◌∷◌, ◌++◌, Memᴰ}
use Prim.Native.Nat.{ℕ, ◌+◌, ◌≤◌, ◌<◌}
use native.Mathlib.Omega.{arith}
use lib.ListN.{length}
use lib.Dec.{eqb, ltb}
use borrow.Author.Tests.{eq-eqb, ne_eqb, ltb-true}
use Rattle.lists.proofs.Cases.{bool_cases, eq_or_ne, lt_or_ge, and_left, and_right, or_right, true_false}
use Rattle.units.specs.declared.Resistance.{Resistance}
use Rattle.units.specs.declared.Resistance.TheVariants.{Infinite, Finite}
use Rattle.units.specs.declared.Femtofarads.{Femtofarads}
use Rattle.units.specs.declared.Ohms.{Ohms}
use Rattle.units.specs.Rules as units
use Rattle.format.specs.Circuit.{Circuit, node_record}
use Rattle.rules.specs.State.{State, value_at, is_driven}
use Rattle.rules.specs.Kept.{Channel}
use Rattle.rules.specs.Sum.{Sum, driven_sum, own_sum, node_sum, infinite, decided, undriven, new_value}
use Rattle.rules.specs.Delay.{Load, is_end, node_load, in_ohms}
use Rattle.rules.specs.Step.{sum_at, target, load_to, delay_by, delay_to}
use Rattle.rules.proofs.Walk.{sum_rule, load_rule, walk_within, walk_related, sum_walk, load_walk, not_end_inner}
use Rattle.rules.proofs.Range.{pass_rule, passed, infinite_join, load_high, load_low, new_side}

-- an inner node of a list that already holds a value
pub record Holder (s : State) (new : ℕ) (tree : List ℕ) : Type 0 where
  pub node : ℕ
  pub listed : Memᴰ node tree
  pub holds : value_at s node ≡ new

-- one side's charge in a node sum: that of the nodes which hold its value
record Side (new : ℕ) (charge : Sum → ℕ) : Type 0 where
  driven : (value : ℕ) → charge (driven_sum value) ≡ 0
  other : (capacitance : Femtofarads) (value : ℕ) → value ≤ 1 → (value ≡ new → ⊥) → charge (own_sum capacitance value) ≡ 0
  add : (c : Circuit) (s : State) (k : Channel) (v x : Sum) → charge ((sum_rule c s).add v k x) ≡ charge v + charge x

high_side : Side 1 (λ v. v.high_charge.0)
high_side = record {
  driven = λ value. refl;
  other = λ capacitance value h ne. rw (ne_eqb value 1 ne);
  add = λ c s k v x. refl;
}

low_side : Side 0 (λ v. v.low_charge.0)
low_side = record {
  driven = λ value. refl;
  other = λ capacitance value h ne. let e : value ≡ 1 = omega arith in rw e;
  add = λ c s k v x. refl;
}

module _ (c : Circuit) (s : State) (ks : List Channel) (bits : (m : ℕ) → value_at s m ≤ 1) (new : ℕ) (charge : Sum → ℕ) (side : Side new charge) where
  -- where a side has charge, a node of the tree holds its value
  side_holder : (a : ℕ) (from : Option ℕ) (n : ℕ) → 1 ≤ charge (node_sum a c s ks from n) → Holder s new (passed c ks a from n)
  side_holder a from n =
      rw (sum_walk c s ks a from n)
      (walk_related Tells ks (sum_rule c s) (pass_rule c) (λ m. refl)
      (λ m e h. absurd (omega (arith, side.driven (value_at s m))))
      (λ m e h. own m h)
      (λ k _ v x w y p q h. both v x w y p q (let z : charge ((sum_rule c s).add v k x) ≡ charge v + charge x = side.add c s k v x in omega arith))
      a from n)
    where
      Tells : Sum → List ℕ → Type 0
      Tells v tree = 1 ≤ charge v → Holder s new tree

      own : (m : ℕ) → 1 ≤ charge ((sum_rule c s).own m) → Holder s new (m ∷ [])
      own m h =
          ⊎_elim
          (λ (e : value_at s m ≡ new). record { node = m; listed = Memᴰ.head refl; holds = e })
          (λ (ne : value_at s m ≡ new → ⊥). absurd (omega (arith, side.other (node_record c m).capacitance (value_at s m) (bits m) ne)))
          (eq_or_ne (value_at s m) new)

      both : (v x : Sum) (w y : List ℕ) → Tells v w → Tells x y → 1 ≤ charge v + charge x → Holder s new (w ++ y)
      both v x w y p q h =
          ⊎_elim
          (λ (l : 0 < charge v). let r = p (omega arith) in record { node = r.node; listed = Memᴰ.append_left y r.listed; holds = r.holds })
          (λ (l : charge v ≤ 0). let r = q (omega arith) in record { node = r.node; listed = Memᴰ.append_right w r.listed; holds = r.holds })
          (lt_or_ge 0 (charge v))

  -- and a walk that ends at holders has a finite resistance
  side_finite : (a : ℕ) (from : Option ℕ) (n : ℕ) → infinite (node_load a true new c s ks from n).resistance ≡ true → charge (node_sum a c s ks from n) ≡ 0
  side_finite a from n =
      rw (sum_walk c s ks a from n, load_walk true new c s ks a from n)
      (walk_within Empty ks (load_rule true new c s) (sum_rule c s)
      (λ m e w at q. ended m e w at q)
      (λ m e. (not_end_inner true new c s m e, λ q. side.other (node_record c m).capacitance (value_at s m) (bits m) (λ z. true_false (is_end true new c s m) (or_right (is_driven c m) _ (eq-eqb (value_at s m) new z)) e)))
      (λ k _ v x w y p q h.
      let two : infinite v.resistance && infinite x.resistance ≡ true = sym (infinite_join k.transistor.resistance v.resistance x.resistance Infinite) ∙ h in
      omega (arith, side.add c s k w y, p (and_left (infinite v.resistance) (infinite x.resistance) two), q (and_right (infinite v.resistance) (infinite x.resistance) two)))
      a from n)
    where
      Empty : Load → Sum → Type 0
      Empty v w = infinite v.resistance ≡ true → charge w ≡ 0

      ended : (m : ℕ) → is_end true new c s m ≡ true → (w : Sum) → (is_driven c m ≡ true → w ≡ driven_sum (value_at s m)) → Empty ((load_rule true new c s).driven m) w
      ended m e w at =
          ⊎_elim
          (λ (z : eqb (value_at s m) new ≡ true). rw z (λ q. true_false false q refl))
          (λ (z : eqb (value_at s m) new ≡ false). λ q. ap charge (at (driven z)) ∙ side.driven (value_at s m))
          (bool_cases (eqb (value_at s m) new))
        where
          driven : eqb (value_at s m) new ≡ false → is_driven c m ≡ true
          driven z = by (is_driven c m) (subst (λ (t : Bool). (is_driven c m || t) ≡ true) z e)
            where
              by : (b : Bool) → (b || false) ≡ true → b ≡ true
              by true q = refl
              by false q = q

-- where neither side drives, a node goes to another value by the charge of that side
by_charge : (v : Sum) (present : ℕ) → undriven v ≡ true → (new_value v present ≡ present → ⊥)
    → ((new_value v present ≡ 1) × (1 ≤ v.high_charge.0)) ⊎ ((new_value v present ≡ 0) × (1 ≤ v.low_charge.0))
unfolding new_value
by_charge v present u ne = by (ltb v.low_charge.0 v.high_charge.0) (ltb v.high_charge.0 v.low_charge.0) refl refl (new_value v present) (rw u) ne
  where
    by : (x y : Bool) → ltb v.low_charge.0 v.high_charge.0 ≡ x → ltb v.high_charge.0 v.low_charge.0 ≡ y
        → (w : ℕ) → w ≡ decided x y present → (w ≡ present → ⊥) → ((w ≡ 1) × (1 ≤ v.high_charge.0)) ⊎ ((w ≡ 0) × (1 ≤ v.low_charge.0))
    by true y p q w e n = inl (e, omega (arith, ltb-true v.low_charge.0 v.high_charge.0 p))
    by false true p q w e n = inr (e, omega (arith, ltb-true v.high_charge.0 v.low_charge.0 q))
    by false false p q w e n = absurd (n e)

-- the delay walk of a node to the value that it goes to
abbrev pub load_at : Circuit → State → List Channel → Bool → ℕ → Load
load_at c s ks sharing n = load_to c s ks sharing (target c s ks n) n

module _ (c : Circuit) (s : State) (bits : (m : ℕ) → value_at s m ≤ 1) (ks : List Channel) (n : ℕ) (changes : target c s ks n ≡ value_at s n → ⊥) where
  abbrev Charged : ℕ → Type 0
  Charged new = ((new ≡ 1) × (1 ≤ (sum_at c s ks n).high_charge.0)) ⊎ ((new ≡ 0) × (1 ≤ (sum_at c s ks n).low_charge.0))

  goes_charged : undriven (sum_at c s ks n) ≡ true → Charged (target c s ks n)
  unfolding target
  goes_charged u = by_charge (sum_at c s ks n) (value_at s n) u changes

  -- where charge decides, some node of the kept tree already holds the new value
  pub changing_holder : undriven (sum_at c s ks n) ≡ true → Holder s (target c s ks n) (passed c ks (length c.nodes) none n)
  changing_holder u = by (target c s ks n) (goes_charged u)
    where
      by : (new : ℕ) → Charged new → Holder s new (passed c ks (length c.nodes) none n)
      by new (inl p) = rw p.0 (side_holder c s ks bits 1 (λ v. v.high_charge.0) high_side (length c.nodes) none n p.1)
      by new (inr p) = rw p.0 (side_holder c s ks bits 0 (λ v. v.low_charge.0) low_side (length c.nodes) none n p.1)

  -- so its resistance is finite
  shared_finite : undriven (sum_at c s ks n) ≡ true → infinite (load_at c s ks true n).resistance ≡ false
  shared_finite u = by (target c s ks n) (goes_charged u)
    where
      not_infinite : (b : Bool) → (b ≡ true → ⊥) → b ≡ false
      not_infinite true f = absurd (f refl)
      not_infinite false f = refl

      by : (new : ℕ) → Charged new → infinite (node_load (length c.nodes) true new c s ks none n).resistance ≡ false
      by new (inl p) = rw p.0 (not_infinite _ (λ q. omega (arith, p.1, side_finite c s ks bits 1 (λ v. v.high_charge.0) high_side (length c.nodes) none n q)))
      by new (inr p) = rw p.0 (not_infinite _ (λ q. omega (arith, p.1, side_finite c s ks bits 0 (λ v. v.low_charge.0) low_side (length c.nodes) none n q)))

  abbrev Sided : ℕ → Type 0
  Sided new = ((new ≡ 1) × (infinite (sum_at c s ks n).high ≡ undriven (sum_at c s ks n))) ⊎ ((new ≡ 0) × (infinite (sum_at c s ks n).low ≡ undriven (sum_at c s ks n)))

  goes_sided : Sided (target c s ks n)
  unfolding target
  goes_sided = new_side (sum_at c s ks n) (value_at s n) changes

  -- and where a side drives it is too
  driven_finite : undriven (sum_at c s ks n) ≡ false → infinite (load_at c s ks false n).resistance ≡ false
  driven_finite u = by (target c s ks n) goes_sided
    where
      by : (new : ℕ) → Sided new → infinite (node_load (length c.nodes) false new c s ks none n).resistance ≡ false
      by new (inl p) = rw p.0 (load_high c s ks (length c.nodes) none n ∙ p.1 ∙ u)
      by new (inr p) = rw p.0 (load_low c s ks (λ m e. bits m) (length c.nodes) none n ∙ p.1 ∙ u)

  never_infinite : infinite (load_at c s ks (undriven (sum_at c s ks n)) n).resistance ≡ false
  never_infinite = by (undriven (sum_at c s ks n)) shared_finite driven_finite
    where
      by : (b : Bool) → (b ≡ true → infinite (load_at c s ks true n).resistance ≡ false) → (b ≡ false → infinite (load_at c s ks false n).resistance ≡ false) → infinite (load_at c s ks b n).resistance ≡ false
      by true p q = p refl
      by false p q = q refl

  -- The resistance of a node that changes is a number of ohms, and its delay is that of these ohms: none meets `noPath`.
  pub changing_finite :
      let load = load_at c s ks (undriven (sum_at c s ks n)) n in
      (r : Ohms) × (load.resistance ≡ Finite r) × (delay_to c s ks (target c s ks n) n ≡ (units.delay r load.charge).0)
  unfolding delay_to delay_by
  changing_finite = by (load_at c s ks (undriven (sum_at c s ks n)) n) never_infinite
    where
      by : (load : Load) → infinite load.resistance ≡ false → (r : Ohms) × (load.resistance ≡ Finite r) × ((units.delay (in_ohms load.resistance) load.charge).0 ≡ (units.delay r load.charge).0)
      by load = at load.resistance
        where
          at : (x : Resistance) → infinite x ≡ false → (r : Ohms) × (x ≡ Finite r) × ((units.delay (in_ohms x) load.charge).0 ≡ (units.delay r load.charge).0)
          at Infinite q = true_false true refl q
          at (Finite r) q = (r, refl, refl)
