-- Whether a delay walk ends at a node that holds the new value or goes on behind it makes no difference (document 02, wish 6): before a resistance
-- of 0 an arm has its own ohms alone, and passes on no charge.
use mathlib.Core.Path.{◌≡◌, refl, sym, ◌∙◌, ap}
use mathlib.Core.Logic.{⊎_elim}
use mathlib.Core.Bool.{Bool, true, false, ◌||◌, cond}
use mathlib.Core.Option.{Option, some}
use mathlib.Core.List.{List}
use Prim.Native.Nat.{ℕ, zero, suc}
use lib.Dec.{eqb}
use Rattle.lists.proofs.Cases.{bool_cases, true_false}
use Rattle.units.specs.declared.Resistance.TheVariants.{Infinite, Finite}
use Rattle.units.specs.Units.{ohms, femtofarads}
use Rattle.units.proofs.Laws.{parallel_zero_left, share_zero}
use Rattle.format.specs.declared.Transistor.{Transistor}
use Rattle.format.specs.Circuit.{Circuit, node_record}
use Rattle.rules.specs.State.{State, value_at, is_driven}
use Rattle.rules.specs.Kept.{Channel}
use Rattle.rules.specs.Sum.{leads, far_end}
use Rattle.rules.specs.Delay.{Load, driven_load, own_load, load_arm, join_loads, is_end, node_load}
use Rattle.rules.proofs.Walk.{Rule, walk, walk_end, arms_all, arms_same, load_end, load_own, load_arms, not_end_inner}

-- the walk that goes on: it ends at driven ends alone, and a holder has 0 ohms and no charge
abbrev pub on_rule : ℕ → Circuit → State → Rule Load
on_rule new c s = record {
  ends = λ n. is_driven c n;
  driven = λ n. driven_load new (value_at s n);
  own = λ n. cond (eqb (value_at s n) new) (driven_load new (value_at s n)) (own_load new (node_record c n).capacitance (value_at s n));
  add = λ v k far. join_loads v (load_arm k.transistor far);
}

-- two loads are the same behind every transistor
abbrev Behind : Load → Load → Type 0
Behind v w = (t : Transistor) → load_arm t v ≡ load_arm t w

-- so are any two of 0 ohms
zero_behind : (v w : Load) → v.resistance ≡ Finite (ohms 0) → w.resistance ≡ Finite (ohms 0) → Behind v w
zero_behind v w p q t = rw (p, q, share_zero t.resistance v.charge, share_zero t.resistance w.charge)

module _ (new : ℕ) (c : Circuit) (s : State) (ks : List Channel) where
  -- a node that is no end does not hold the new value
  not_held : (n : ℕ) → is_end true new c s n ≡ false → eqb (value_at s n) new ≡ false
  not_held n e = by (is_driven c n) e
    where
      by : (b : Bool) → (b || eqb (value_at s n) new) ≡ false → eqb (value_at s n) new ≡ false
      by true q = true_false true refl q
      by false q = q

  -- at a holder the walk that goes on has 0 ohms too
  held_zero : (a : ℕ) (from : Option ℕ) (n : ℕ) → is_driven c n ≡ false → eqb (value_at s n) new ≡ true → (walk ks (on_rule new c s) a from n).resistance ≡ Finite (ohms 0)
  unfolding walk
  held_zero zero from n d e = rw (d, e)
  held_zero (suc a) from n d e =
      rw (d, e)
      (arms_all (λ (v : Load). v.resistance ≡ Finite (ohms 0)) (leads from n)
      (λ (v : Load) (k : Channel). join_loads v (load_arm k.transistor (walk ks (on_rule new c s) a (some k.number) (far_end n k)))) ks
      (λ k m _ v p. rw p (parallel_zero_left _))
      (record { resistance = Finite (ohms 0); charge = femtofarads 0 }) refl)

  -- at any other inner node the two walks are the same, where they are so behind its arms
  none_same : (from : Option ℕ) (n : ℕ) → is_end true new c s n ≡ false → node_load zero true new c s ks from n ≡ walk ks (on_rule new c s) zero from n
  unfolding walk
  none_same from n e = rw (load_own c s ks true new from n e, not_end_inner true new c s n e, not_held n e)

  arms_on : (a : ℕ) → ((from : Option ℕ) (n : ℕ) → Behind (node_load a true new c s ks from n) (walk ks (on_rule new c s) a from n))
      → (from : Option ℕ) (n : ℕ) → is_end true new c s n ≡ false → node_load (suc a) true new c s ks from n ≡ walk ks (on_rule new c s) (suc a) from n
  unfolding walk
  arms_on a below from n e =
      rw (load_arms c s ks true new a from n e, not_end_inner true new c s n e, not_held n e)
      (arms_same (leads from n)
      (λ (v : Load) (k : Channel). join_loads v (load_arm k.transistor (node_load a true new c s ks (some k.number) (far_end n k))))
      (λ (v : Load) (k : Channel). join_loads v (load_arm k.transistor (walk ks (on_rule new c s) a (some k.number) (far_end n k))))
      ks (λ k m _ v. ap (join_loads v) (below (some k.number) (far_end n k) k.transistor))
      (record { resistance = Infinite; charge = (node_record c n).capacitance }))

  -- behind an arm they are the same wherever it leads
  ended_behind : (a : ℕ) (from : Option ℕ) (n : ℕ) → is_end true new c s n ≡ true → Behind (node_load a true new c s ks from n) (walk ks (on_rule new c s) a from n)
  ended_behind a from n e =
      ⊎_elim
      (λ (d : is_driven c n ≡ true). λ t. ap (load_arm t) (load_end c s ks true new a from n e ∙ sym (walk_end ks (on_rule new c s) a from n d)))
      (λ (d : is_driven c n ≡ false).
      let z : eqb (value_at s n) new ≡ true = rw d at e in
      zero_behind _ _ (ap (λ (v : Load). v.resistance) (load_end c s ks true new a from n e) ∙ ap (λ (b : Bool). cond b (Finite (ohms 0)) Infinite) z) (held_zero a from n d z))
      (bool_cases (is_driven c n))

  behind : (a : ℕ) (from : Option ℕ) (n : ℕ) → Behind (node_load a true new c s ks from n) (walk ks (on_rule new c s) a from n)
  behind zero from n =
      ⊎_elim (ended_behind zero from n) (λ (e : is_end true new c s n ≡ false). λ t. ap (load_arm t) (none_same from n e)) (bool_cases (is_end true new c s n))
  behind (suc a) from n =
      ⊎_elim (ended_behind (suc a) from n) (λ (e : is_end true new c s n ≡ false). λ t. ap (load_arm t) (arms_on a (behind a) from n e)) (bool_cases (is_end true new c s n))

  -- so for a node that does not hold the new value it makes no difference whether the walk goes on behind those that do
  pub past_holders : (a : ℕ) (from : Option ℕ) (n : ℕ) → is_end true new c s n ≡ false → node_load a true new c s ks from n ≡ walk ks (on_rule new c s) a from n
  past_holders zero from n e = none_same from n e
  past_holders (suc a) from n e = arms_on a (behind a) from n e
