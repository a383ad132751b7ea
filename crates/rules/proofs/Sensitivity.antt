-- How much a wire's load can matter (document 02, wish 11), proved. With more capacitance at one node no resistance of a walk changes, and the charge of a delay
-- walk grows by no more than was added: an arm passes on no more of it than comes to it, and a walk comes to each inner node once at most.
use mathlib.Core.Path.{◌≡◌, refl, sym, ◌∙◌, ap, ap₂, subst}
use mathlib.Core.Logic.{⊎_elim}
use mathlib.Core.Bool.{Bool, true, false, not, ◌&&◌, ◌||◌, cond}
use mathlib.Core.Option.{Option, none}
use mathlib.Core.List.Memᴰ
use mathlib.Core.List.{List, [], ◌∷◌, ◌++◌, Memᴰ}
use Prim.Native.Nat.{ℕ, ◌+◌, ◌*◌, ◌≤◌, ◌<◌, min}
use native.Mathlib.Nat.{mul-add, mul-le-mul_left}
use native.Mathlib.Omega.{arith}
use lib.ListN.{length}
use lib.Dec.{eqb}
use borrow.Author.Tests.{ne_eqb}
use Rattle.lists.proofs.Cases.{bool_cases, eq_or_ne}
use Rattle.lists.proofs.Count.{cond_le}
use Rattle.refusal.specs.Answer.{answered}
use Rattle.units.specs.declared.Femtofarads.{Femtofarads}
use Rattle.units.specs.declared.Resistance.{Resistance}
use Rattle.units.specs.Units.{femtofarads}
use Rattle.units.specs.Rules as units
use Rattle.units.proofs.Growth.{Grown, joined_grown, share_grown, delay_grown}
use Rattle.format.specs.Circuit.{Circuit, node_record}
use Rattle.format.specs.Legal.{check_circuit}
use Rattle.format.proofs.Legal.{legal_cell}
use Rattle.rules.specs.State.{State, value_at, change_at, is_driven}
use Rattle.rules.specs.Kept.{Channel, kept}
use Rattle.rules.specs.Sum.{Sum, node_sum, undriven, new_value}
use Rattle.rules.specs.Delay.{Load, join_loads, load_arm, is_end, node_load, in_ohms}
use Rattle.rules.specs.Step.{sum_at, target, exceeds, load_to, delay_by, delay_to, in_horizon, next_change}
use Rattle.rules.specs.Sensitivity.{raised, goes_to, delay_of, resistance_of, DueToChange, Loadable, most_growth, Slower, LoadBoundsDelay}
use Rattle.rules.proofs.Label.{all_legal, inner_node_lem}
use Rattle.rules.proofs.Walk.{Rule, walk, sum_rule, load_rule, walk_within, walk_related, sum_walk, load_walk, walk_end, not_end_inner, Distinct, Kept, kept_kept, way_root}
use Rattle.rules.proofs.Range.{pass_rule, passed, passed_once, Resistive}
use Rattle.rules.proofs.Sharing.{changing_finite}
use Rattle.rules.proofs.Wiring.{driven_alike, kept_alike}
use Rattle.rules.proofs.Raised.{Heavier, raised_heavier, raised_legal}

-- how often a number stands in a list
unfoldable occurs : ℕ → List ℕ → ℕ
occurs m [] = 0
occurs m (x ∷ xs) = cond (eqb x m) 1 0 + occurs m xs

occurs_append : (m : ℕ) (xs ys : List ℕ) → occurs m (xs ++ ys) ≡ occurs m xs + occurs m ys
unfolding occurs
occurs_append m [] ys = omega arith
occurs_append m (x ∷ xs) ys = omega (arith, occurs_append m xs ys)

occurs_one : (m x : ℕ) → occurs m (x ∷ []) ≡ cond (eqb x m) 1 0
unfolding occurs
occurs_one m x = omega arith

occurs_none : (m : ℕ) (xs : List ℕ) → (Memᴰ m xs → ⊥) → occurs m xs ≡ 0
unfolding occurs
occurs_none m [] h = refl
occurs_none m (x ∷ xs) h =
    ⊎_elim
    (λ (e : x ≡ m). absurd (h (Memᴰ.head (sym e))))
    (λ (ne : x ≡ m → ⊥). rw (ne_eqb x m ne) (omega (arith, occurs_none m xs (λ at. h (Memᴰ.tail at)))))
    (eq_or_ne x m)

-- where none stands twice, once at most
occurs_once : (m : ℕ) (xs : List ℕ) → Distinct xs → occurs m xs ≤ 1
unfolding occurs Distinct
occurs_once m [] d = omega arith
occurs_once m (x ∷ xs) d =
    ⊎_elim
    (λ (e : x ≡ m). omega (arith, cond_le (eqb x m), occurs_none m xs (subst (λ (y : ℕ). Memᴰ y xs → ⊥) e d.0)))
    (λ (ne : x ≡ m → ⊥). rw (ne_eqb x m ne) (omega (arith, occurs_once m xs d.1)))
    (eq_or_ne x m)

-- two sums with the same sides, whatever their charges
record SameSides (v w : Sum) : Type 0 where
  high_same : v.high ≡ w.high
  low_same : v.low ≡ w.low
  exceeds_same : v.exceeds ≡ w.exceeds

-- so both are driven or neither is
undriven_same : (v w : Sum) → SameSides v w → undriven v ≡ undriven w
undriven_same v w e = rw (e.high_same, e.low_same)

-- where a side drives, both go to the same value
new_by_sides : (v w : Sum) (present : ℕ) → SameSides v w → undriven v ≡ false → new_value v present ≡ new_value w present
unfolding new_value
new_by_sides v w present e d = rw (d, ← (undriven_same v w e), d, e.high_same, e.low_same)

-- a delay walk's load, and how often the walk came to node m
record Tallied : Type 0 where
  load : Load
  hits : ℕ

abbrev tally_rule : ℕ → Bool → ℕ → Circuit → State → Rule Tallied
tally_rule m sharing new c s =
    let r = load_rule sharing new c s in
    record {
      ends = r.ends;
      driven = λ n. record { load = r.driven n; hits = 0 };
      own = λ n. record { load = r.own n; hits = cond (eqb n m) 1 0 };
      add = λ v k far. record { load = r.add v.load k far.load; hits = v.hits + far.hits };
    }

-- a load, and one with the same ohms whose charge has grown by up to so many femtofarads a hit
record GrownLoad (more : ℕ) (v : Tallied) (w : Load) : Type 0 where
  ohms_same : v.load.resistance ≡ w.resistance
  grown : Grown (more * v.hits) v.load.charge w.charge

-- an inner node by itself
own_grown : (most : ℕ) (a b : Femtofarads) (held : Bool) → Grown most a b → Grown most (cond held (femtofarads 0) a) (cond held (femtofarads 0) b)
own_grown most a b true g = record { least = omega arith; most = omega arith }
own_grown most a b false g = g

-- an arm joined
add_grown : (more : ℕ) (k : Channel) → 1 ≤ k.transistor.resistance.0 → (v x : Tallied) (w y : Load) → GrownLoad more v w → GrownLoad more x y
    → GrownLoad more (record { load = join_loads v.load (load_arm k.transistor x.load); hits = v.hits + x.hits }) (join_loads w (load_arm k.transistor y))
add_grown more k pos v x w y p q = record {
  ohms_same = rw (p.ohms_same, q.ohms_same);
  grown = rw (← q.ohms_same, mul-add more v.hits x.hits)
      (joined_grown (more * v.hits) (more * x.hits) v.load.charge w.charge _ _ p.grown
      (share_grown (more * x.hits) k.transistor.resistance x.load.resistance x.load.charge y.charge pos q.grown));
}

-- the delays of two loads with the same ohms, of which one has grown
delays_grown : (more : ℕ) (v w : Load) → v.resistance ≡ w.resistance → Grown more v.charge w.charge
    → ((units.delay (in_ohms v.resistance) v.charge).0 ≤ (units.delay (in_ohms w.resistance) w.charge).0)
    × ((units.delay (in_ohms w.resistance) w.charge).0 ≤ (units.delay (in_ohms v.resistance) v.charge).0 + units.ceil_div ((in_ohms v.resistance).0 * more) 1000)
delays_grown more v w e g = rw (← e) (delay_grown more (in_ohms v.resistance) v.charge w.charge g)

module _ {c d : Circuit} {m more : ℕ} (h : Heavier c d m more) (s : State) (ks : List Channel) where
  -- no side of a node sum changes
  sides_same : (a : ℕ) (from : Option ℕ) (n : ℕ) → SameSides (node_sum a c s ks from n) (node_sum a d s ks from n)
  sides_same a from n =
      rw (sum_walk c s ks a from n, sum_walk d s ks a from n)
      (walk_related SameSides ks (sum_rule c s) (sum_rule d s) (driven_alike h.wired)
      (λ i e. record { high_same = refl; low_same = refl; exceeds_same = refl }) (λ i e. record { high_same = refl; low_same = refl; exceeds_same = refl })
      (λ k _ v x w y p q. record {
        high_same = rw (p.high_same, q.high_same, q.low_same);
        low_same = rw (p.low_same, q.high_same, q.low_same);
        exceeds_same = rw (p.exceeds_same, q.high_same, q.low_same, q.exceeds_same);
      })
      a from n)

  -- nor does any for the node that a walk is for
  sides_at : (n : ℕ) → SameSides (sum_at c s ks n) (sum_at d s ks n)
  sides_at n = rw (← h.wired.count_same) (sides_same (length c.nodes) none n)

  module _ (sharing : Bool) (new : ℕ) where
    ends_alike : (n : ℕ) → is_end sharing new c s n ≡ is_end sharing new d s n
    ends_alike n = ap (λ (b : Bool). b || (sharing && eqb (value_at s n) new)) (driven_alike h.wired n)

    -- the walk and its tally
    abbrev tallied : ℕ → Option ℕ → ℕ → Tallied
    tallied a from n = walk ks (tally_rule m sharing new c s) a from n

    tally_load : (a : ℕ) (from : Option ℕ) (n : ℕ) → (tallied a from n).load ≡ node_load a sharing new c s ks from n
    tally_load a from n =
        walk_related (λ (v : Tallied) (w : Load). v.load ≡ w) ks (tally_rule m sharing new c s) (load_rule sharing new c s) (λ i. refl) (λ i e. refl) (λ i e. refl)
        (λ k _ v x w y p q. rw (p, q)) a from n
        ∙ sym (load_walk sharing new c s ks a from n)

    -- the walk comes to m no more often than the walk of all inner nodes
    tally_passed : (a : ℕ) (from : Option ℕ) (n : ℕ) → (tallied a from n).hits ≤ occurs m (passed c ks a from n)
    tally_passed a from n =
        walk_within (λ (v : Tallied) (l : List ℕ). v.hits ≤ occurs m l) ks (tally_rule m sharing new c s) (pass_rule c)
        (λ i e w at. omega arith) (λ i e. (not_end_inner sharing new c s i e, omega (arith, occurs_one m i)))
        (λ k _ v x w y p q. omega (arith, occurs_append m w y))
        a from n

    -- over transistors of some ohms, the heavier cell's walk has the same ohms, and a charge grown by what was added at each hit
    tally_grown : Resistive ks → (a : ℕ) (from : Option ℕ) (n : ℕ) → GrownLoad more (tallied a from n) (node_load a sharing new d s ks from n)
    tally_grown pos a from n =
        rw (load_walk sharing new d s ks a from n)
        (walk_related (GrownLoad more) ks (tally_rule m sharing new c s) (load_rule sharing new d s) ends_alike
        (λ i e. record { ohms_same = refl; grown = record { least = omega arith; most = omega arith } })
        (λ i e. record {
          ohms_same = refl;
          grown = own_grown _ (node_record c i).capacitance (node_record d i).capacitance (eqb (value_at s i) new) (h.grown i (not_end_inner sharing new c s i (ends_alike i ∙ e)));
        })
        (λ k at v x w y p q. add_grown more k (pos k at) v x w y p q)
        a from n)

    module _ (k : Kept c ks) (pos : Resistive ks) (n : ℕ) (i : n < 2 + length c.nodes) where
      -- from the node that it is for, a walk comes to m once at most
      tally_once : (a : ℕ) → (tallied a none n).hits ≤ 1
      tally_once a =
          ⊎_elim
          (λ (e : is_driven c n ≡ true).
          let z : occurs m (passed c ks a none n) ≡ 0 = rw (walk_end ks (pass_rule c) a none n e) (occurs_none m [] Memᴰ.not-nil) in
          omega (arith, tally_passed a none n))
          (λ (e : is_driven c n ≡ false).
          omega (arith, tally_passed a none n, occurs_once m _ (passed_once c ks k a none n [] (way_root c ks k n (ap not e) (inner_node_lem c (length c.nodes) n (ap not e) i)))))
          (bool_cases (is_driven c n))

      -- so its ohms stay, and its charge grows by no more than was added
      load_grown : ((load_to c s ks sharing new n).resistance ≡ (load_to d s ks sharing new n).resistance) × Grown more (load_to c s ks sharing new n).charge (load_to d s ks sharing new n).charge
      load_grown =
          let g : GrownLoad more (tallied (length c.nodes) none n) (load_to d s ks sharing new n) = rw (← h.wired.count_same) (tally_grown pos (length c.nodes) none n) in
          rw (← (tally_load (length c.nodes) none n))
          (g.ohms_same, record { least = g.grown.least; most = omega (arith, g.grown.most, mul-le-mul_left more (tally_once (length c.nodes))) })

      -- and so does its delay: by any walk, to any value
      pub delay_by_grown :
          (delay_by c s ks sharing new n ≤ delay_by d s ks sharing new n)
          × (delay_by d s ks sharing new n ≤ delay_by c s ks sharing new n + units.ceil_div ((in_ohms (load_to c s ks sharing new n).resistance).0 * more) 1000)
      unfolding delay_by
      delay_by_grown = delays_grown more (load_to c s ks sharing new n) (load_to d s ks sharing new n) load_grown.0 load_grown.1

module _ (c : Circuit) (legal : check_circuit c ≡ answered c) (s : State) (bits : (i : ℕ) → value_at s i ≤ 1) (n : ℕ) (due : DueToChange c s n)
    (m : ℕ) (more : Femtofarads) (l : Loadable c m more) where
  heavy : Heavier c (raised c m more) m more.0
  heavy = raised_heavier c m more l

  -- the same transistors are kept
  kept_same : kept (raised c m more) s ≡ kept c s
  kept_same = sym (kept_alike heavy.wired s)

  sides : SameSides (sum_at c s (kept c s) n) (sum_at (raised c m more) s (kept c s) n)
  sides = sides_at heavy s (kept c s) n

  -- the new value is the same
  value_same : target (raised c m more) s (kept c s) n ≡ target c s (kept c s) n
  unfolding target
  value_same = sym (new_by_sides _ _ (value_at s n) sides due.driven)

  sharing_same : undriven (sum_at (raised c m more) s (kept c s) n) ≡ undriven (sum_at c s (kept c s) n)
  sharing_same = sym (undriven_same _ _ sides)

  exceeds_raised : exceeds (raised c m more) s (kept c s) n ≡ false
  unfolding exceeds
  exceeds_raised = sym sides.exceeds_same ∙ due.within

  delay_raised : delay_of (raised c m more) s n ≡ delay_by (raised c m more) s (kept c s) (undriven (sum_at c s (kept c s) n)) (goes_to c s n) n
  unfolding delay_to
  delay_raised = rw (kept_same, value_same, sharing_same)

  resistance_raised : resistance_of (raised c m more) s n ≡ (load_to (raised c m more) s (kept c s) (undriven (sum_at c s (kept c s) n)) (goes_to c s n) n).resistance
  resistance_raised =
      ap (λ (ks : List Channel). (load_to (raised c m more) s ks (undriven (sum_at (raised c m more) s ks n)) (target (raised c m more) s ks n) n).resistance) kept_same
      ∙ ap₂ (λ (sharing : Bool) (new : ℕ). (load_to (raised c m more) s (kept c s) sharing new n).resistance) sharing_same value_same

  slower : Slower c s n m more
  unfolding delay_to
  slower =
      let whole : Kept c (kept c s) = kept_kept c s (all_legal (legal_cell legal)) in
      let pos : Resistive (kept c s) = λ k at. (whole.legal k at).least in
      let sharing : Bool = undriven (sum_at c s (kept c s) n) in
      let load = load_grown heavy s (kept c s) sharing (goes_to c s n) whole pos n due.node in
      let grows = delay_by_grown heavy s (kept c s) sharing (goes_to c s n) whole pos n due.node in
      let finite = changing_finite c s bits (kept c s) n due.changes in
      record {
        legal = raised_legal c m more l legal;
        same_kept = kept_same;
        still_due = record {
          node = omega (arith, heavy.wired.count_same, due.node);
          driven = rw kept_same (sharing_same ∙ due.driven);
          within = rw kept_same exceeds_raised;
          changes = λ e. due.changes (sym (rw kept_same value_same) ∙ e);
        };
        same_value = rw kept_same value_same;
        resistance = finite.0;
        resistance_is = finite.1;
        same_resistance = resistance_raised ∙ sym load.0 ∙ finite.1;
        never_falls = rw delay_raised grows.0;
        grows_at_most = omega (arith, delay_raised, grows.1, ap (λ (r : Resistance). most_growth (in_ohms r) more) finite.1);
      }

-- the delay that the claim speaks of is the one by which a start or a step sets the next change of a node that it reconsiders
pub due_next_change : (c : Circuit) (s : State) (n time : ℕ) → DueToChange c s n → next_change c time s (kept c s) n ≡ in_horizon c (min (change_at s n) (time + delay_of c s n))
unfolding next_change
due_next_change c s n time due = rw (ne_eqb (goes_to c s n) (value_at s n) due.changes)

-- the claim
pub load_bounds_delay : LoadBoundsDelay
unfolding LoadBoundsDelay
load_bounds_delay = slower
