-- Locality: what a walk gives at a node of a set of inner nodes depends only on the set's own values, on the channels that touch it, and on
-- the driven ends of those.
use mathlib.Core.Path.{◌≡◌, refl, sym, ◌∙◌, ap}
use mathlib.Core.Logic.{◌⊎◌, inl, inr, ⊎_elim}
use mathlib.Core.Bool.{Bool, true, false, ◌||◌, ◌&&◌, cond, or-true}
use mathlib.Core.Option.{Option, some, none}
use mathlib.Core.List.{List, [], ◌∷◌, Memᴰ}
use Prim.Native.Nat.{ℕ, zero, suc}
use lib.ListN.{length}
use lib.Dec.{eqb}
use Rattle.lists.proofs.Cases.{bool_cases, true_false}
use Rattle.units.specs.Rules as units
use Rattle.format.specs.Circuit.{Circuit, node_record}
use Rattle.rules.specs.State.{State, value_at, change_at, is_driven}
use Rattle.rules.specs.Label.{only}
use Rattle.rules.specs.Kept.{Channel}
use Rattle.rules.specs.Sum.{Sum, leads, far_end, over_arms, driven_sum, own_sum, node_sum, undriven}
use Rattle.rules.specs.Delay.{Load, driven_load, own_load, node_load, in_ohms}
use Rattle.rules.specs.Step.{target, exceeds, delay_by, delay_to, next_change}
use Rattle.rules.proofs.Label.{only_of}
use Rattle.rules.proofs.Walk.{Rule, walk, sum_rule, load_rule, sum_walk, load_walk, walk_end, arms_same, Ends, leads_ends, ends_far}

-- a channel with an end in a set
abbrev pub touches : (ℕ → Bool) → Channel → Bool
touches P k = P k.transistor.first || P k.transistor.second

module _ (test : Channel → Bool) where
  -- arms that do not pass may be left out where only those that pass lead away
  pub arms_only : {A : Type 0} (away : Channel → Bool) (f : A → Channel → A) (o : A) (ks : List Channel)
      → ((k : Channel) → away k ≡ true → test k ≡ true) → over_arms away f o ks ≡ over_arms away f o (only test ks)
  unfolding only over_arms
  arms_only away f o [] h = refl
  arms_only away f o (k ∷ ks) h =
      ⊎_elim
      (λ (e : test k ≡ true). rw e (arms_only away f (cond (away k) (f o k) o) ks h))
      (λ (e : test k ≡ false).
      let out : away k ≡ false = ⊎_elim (λ (q : away k ≡ true). true_false (test k) (h k q) e) (λ (q : away k ≡ false). q) (bool_cases (away k)) in
      rw (e, out) (arms_only away f o ks h))
      (bool_cases (test k))

-- two walks end at a node, with the same
record Ended {A : Type 0} (r q : Rule A) (n : ℕ) : Type 0 where
  first : r.ends n ≡ true
  second : q.ends n ≡ true
  same : r.driven n ≡ q.driven n

-- a node that a walk in a set may come to: it is in the set, or both walks end there
abbrev Reached : {A : Type 0} → (ℕ → Bool) → Rule A → Rule A → ℕ → Type 0
Reached P r q n = (P n ≡ true) ⊎ Ended r q n

-- a channel that leads away from a node of the set touches the set
leads_touches : (P : ℕ → Bool) (from : Option ℕ) (n : ℕ) → P n ≡ true → (k : Channel) → leads from n k ≡ true → touches P k ≡ true
leads_touches P from n p k e = by (leads_ends from n k e).0
  where
    by : Ends n (far_end n k) k → touches P k ≡ true
    by (inl q) = rw (q.0, p)
    by (inr q) = rw (q.1, p) (or-true (P k.transistor.first))

-- two rules do the same at a node: they end there or not, with the same, and have the same by itself
record Alike {A : Type 0} (r q : Rule A) (n : ℕ) : Type 0 where
  ends : r.ends n ≡ q.ends n
  driven : r.driven n ≡ q.driven n
  own : r.own n ≡ q.own n

module _ {A : Type 0} (P : ℕ → Bool) (ks js : List Channel) (r q : Rule A)
    (same : only (touches P) ks ≡ only (touches P) js)
    (ends : (k : Channel) → Memᴰ k ks → touches P k ≡ true → Reached P r q k.transistor.first × Reached P r q k.transistor.second)
    (alike : (n : ℕ) → P n ≡ true → Alike r q n)
    (add : (v : A) (k : Channel) (x : A) → r.add v k x ≡ q.add v k x) where
  -- two walks over the same channels at a set give the same at its nodes
  walk_local : (a : ℕ) (from : Option ℕ) (n : ℕ) → P n ≡ true → walk ks r a from n ≡ walk js q a from n
  unfolding walk
  walk_local zero from n p = rw ((alike n p).ends, (alike n p).driven, (alike n p).own)
  walk_local (suc a) from n p =
      let f : A → Channel → A = λ v k. r.add v k (walk ks r a (some k.number) (far_end n k)) in
      let g : A → Channel → A = λ v k. q.add v k (walk js q a (some k.number) (far_end n k)) in
      let away : Channel → Bool = leads from n in
      let within : (k : Channel) → away k ≡ true → touches P k ≡ true = leads_touches P from n p in
      let far : (k : Channel) → Memᴰ k ks → away k ≡ true → walk ks r a (some k.number) (far_end n k) ≡ walk js q a (some k.number) (far_end n k) =
      λ k m e.
      let two = ends k m (within k e) in
      ⊎_elim
      (λ (i : P (far_end n k) ≡ true). walk_local a (some k.number) (far_end n k) i)
      (λ (d : Ended r q (far_end n k)).
      walk_end ks r a (some k.number) (far_end n k) d.first ∙ d.same ∙ sym (walk_end js q a (some k.number) (far_end n k) d.second))
      (ends_far (Reached P r q) n (far_end n k) k (leads_ends from n k e).0 two.0 two.1) in
      rw ((alike n p).ends, (alike n p).driven)
      (ap (cond (q.ends n) (q.driven n))
      (arms_only (touches P) away f (r.own n) ks within
      ∙ arms_same away f g (only (touches P) ks) (λ k m e v. add v k _ ∙ ap (q.add v k) (far k (only_of (touches P) ks k m).0 e)) (r.own n)
      ∙ ap (λ (o : A). over_arms away g o (only (touches P) ks)) (alike n p).own
      ∙ ap (over_arms away g (q.own n)) same
      ∙ sym (arms_only (touches P) away g (q.own n) js within)))

-- a node of the set, or a driven end with the same value in both states
abbrev pub Shared : Circuit → (ℕ → Bool) → State → State → ℕ → Type 0
Shared c P s z n = (P n ≡ true) ⊎ ((is_driven c n ≡ true) × (value_at s n ≡ value_at z n))

-- two states with their channels are the same at a set of inner nodes
pub record Local (c : Circuit) (P : ℕ → Bool) (s : State) (ks : List Channel) (z : State) (js : List Channel) : Type 0 where
  pub same : only (touches P) ks ≡ only (touches P) js
  pub ends : (k : Channel) → Memᴰ k ks → touches P k ≡ true → Shared c P s z k.transistor.first × Shared c P s z k.transistor.second
  pub values : (n : ℕ) → P n ≡ true → value_at s n ≡ value_at z n

module _ {c : Circuit} {P : ℕ → Bool} {s z : State} {ks js : List Channel} (h : Local c P s ks z js) where
  module _ (a : ℕ) (from : Option ℕ) (n : ℕ) (p : P n ≡ true) where
    -- they have the same node sums there
    pub sum_local : node_sum a c s ks from n ≡ node_sum a c z js from n
    sum_local =
        sum_walk c s ks a from n
        ∙ walk_local P ks js (sum_rule c s) (sum_rule c z) h.same
        (λ k m t. let two = h.ends k m t in (reached k.transistor.first two.0, reached k.transistor.second two.1))
        (λ m i. record { ends = refl; driven = ap driven_sum (h.values m i); own = ap (own_sum (node_record c m).capacitance) (h.values m i) })
        (λ v k x. refl)
        a from n p
        ∙ sym (sum_walk c z js a from n)
      where
        reached : (m : ℕ) → Shared c P s z m → Reached P (sum_rule c s) (sum_rule c z) m
        reached m (inl i) = inl i
        reached m (inr d) = inr (record { first = d.0; second = d.0; same = ap driven_sum d.1 })

    -- and the same delay walks
    pub load_local : (sharing : Bool) (new : ℕ) → node_load a sharing new c s ks from n ≡ node_load a sharing new c z js from n
    load_local sharing new =
        load_walk sharing new c s ks a from n
        ∙ walk_local P ks js (load_rule sharing new c s) (load_rule sharing new c z) h.same
        (λ k m t. let two = h.ends k m t in (reached k.transistor.first two.0, reached k.transistor.second two.1))
        (λ m i. record {
          ends = ap (λ (v : ℕ). is_driven c m || (sharing && eqb v new)) (h.values m i);
          driven = ap (driven_load new) (h.values m i);
          own = ap (own_load new (node_record c m).capacitance) (h.values m i);
        })
        (λ v k x. refl)
        a from n p
        ∙ sym (load_walk sharing new c z js a from n)
      where
        reached : (m : ℕ) → Shared c P s z m → Reached P (load_rule sharing new c s) (load_rule sharing new c z) m
        reached m (inl i) = inl i
        reached m (inr d) = inr (record { first = rw d.0; second = rw d.0; same = ap (driven_load new) d.1 })

  module _ (n : ℕ) (p : P n ≡ true) where
    -- a node goes to the same value
    pub target_local : target c s ks n ≡ target c z js n
    unfolding target
    target_local = rw (sum_local (length c.nodes) none n p, h.values n p)

    -- its walk exceeds the ceiling in both or in neither
    pub exceeds_local : exceeds c s ks n ≡ exceeds c z js n
    unfolding exceeds
    exceeds_local = ap (λ (sum : Sum). sum.exceeds) (sum_local (length c.nodes) none n p)

    -- with the same delay
    pub delay_local : (new : ℕ) → delay_to c s ks new n ≡ delay_to c z js new n
    unfolding delay_to delay_by
    delay_local new =
        ap (λ (v : Sum). delay_by c s ks (undriven v) new n) (sum_local (length c.nodes) none n p)
        ∙ ap (λ (load : Load). (units.delay (in_ohms load.resistance) load.charge).0) (load_local (length c.nodes) none n p (undriven (node_sum (length c.nodes) c z js none n)) new)

    -- so with the same pending change it has the same next one
    pub change_local : (time : ℕ) → change_at s n ≡ change_at z n → next_change c time s ks n ≡ next_change c time z js n
    unfolding next_change
    change_local time e = rw (target_local, h.values n p, e, delay_local (target c z js n))
