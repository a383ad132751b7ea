-- The walks of node sum and delay as one walk, and that an allowance of one for each node record is enough for it:
-- the nodes on the way from the root are different node records, because each channel on the way has a cut.
use mathlib.Core.Path.{◌≡◌, refl, sym, ◌∙◌, ap, subst}
use mathlib.Core.Logic.{◌⊎◌, inl, inr, ⊎_elim}
use mathlib.Core.Bool.{Bool, true, false, not, ◌||◌, ◌&&◌, cond}
use mathlib.Core.Option.{Option, some, none}
use mathlib.Core.List.{List, [], ◌∷◌, Memᴰ}
use Prim.Native.Nat.{ℕ, zero, suc, ◌+◌, ◌≤◌, ◌<◌}
use native.Mathlib.Omega.{arith}
use lib.ListN.{length}
use lib.Dec.{eqb}
use borrow.Author.Tests.{eq-eqb, ne_eqb, eqb-true, eqb-false, not-true}
use Rattle.lists.proofs.Cases.{bool_cases, eq_or_ne, and_left, and_right}
use Rattle.format.proofs.Legal.{LegalTransistor}
use Rattle.format.specs.Circuit.{Circuit, node_record}
use Rattle.rules.specs.State.{State, value_at, is_driven, is_inner}
use Rattle.rules.specs.Kept.{Channel, kept}
use Rattle.rules.specs.Sum.{Sum, is_the, leads, far_end, over_arms, driven_sum, own_sum, arm_of, join_sums, node_sum}
use Rattle.rules.specs.Delay.{Load, driven_load, own_load, load_arm, join_loads, is_end, node_load}
use Rattle.rules.proofs.Label.{IsNode, AllLegal, inner_node_lem}
use Rattle.rules.proofs.Forest.{Inner, Cut, Forest, Rising, kept_forest, kept_rising, kept_stems}

-- where a walk ends, and what it does at such an end, at any other node by itself, and with what comes back over a channel
pub record Rule (A : Type 0) : Type 0 where
  pub ends : ℕ → Bool
  pub driven : ℕ → A
  pub own : ℕ → A
  pub add : A → Channel → A → A

-- a walk over channels
unfoldable pub walk : {A : Type 0} → List Channel → Rule A → ℕ → Option ℕ → ℕ → A
walk ks r zero from n = cond (r.ends n) (r.driven n) (r.own n)
walk {A} ks r (suc allowance) from n =
    cond (r.ends n)
    (r.driven n)
    (over_arms (leads from n) (λ (v : A) (k : Channel). r.add v k (walk ks r allowance (some k.number) (far_end n k))) (r.own n) ks)

-- the node sum's rule
abbrev pub sum_rule : Circuit → State → Rule Sum
sum_rule c s = record {
  ends = λ n. is_driven c n;
  driven = λ n. driven_sum (value_at s n);
  own = λ n. own_sum (node_record c n).capacitance (value_at s n);
  add = λ v k far. join_sums v (arm_of k.transistor far);
}

-- the delay walk's rule
abbrev pub load_rule : Bool → ℕ → Circuit → State → Rule Load
load_rule sharing new c s = record {
  ends = λ n. is_end sharing new c s n;
  driven = λ n. driven_load new (value_at s n);
  own = λ n. own_load new (node_record c n).capacitance (value_at s n);
  add = λ v k far. join_loads v (load_arm k.transistor far);
}

-- arms that add related things come to related things
pub arms_related : {A B : Type 0} (R : A → B → Type 0) (away : Channel → Bool) (f : A → Channel → A) (g : B → Channel → B) (ks : List Channel)
    → ((k : Channel) → Memᴰ k ks → away k ≡ true → (v : A) (w : B) → R v w → R (f v k) (g w k)) → (o : A) (p : B) → R o p → R (over_arms away f o ks) (over_arms away g p ks)
unfolding over_arms
arms_related R away f g [] h o p r = r
arms_related {A} {B} R away f g (k ∷ ks) h o p r =
    arms_related R away f g ks (λ j m. h j (mathlib.Core.List.Memᴰ.tail m)) (cond (away k) (f o k) o) (cond (away k) (g p k) p) (by (away k) refl)
  where
    by : (b : Bool) → away k ≡ b → R (cond b (f o k) o) (cond b (g p k) p)
    by true e = h k (mathlib.Core.List.Memᴰ.head refl) e o p r
    by false e = r

-- what holds at first and is kept by each arm holds after all
pub arms_all : {A : Type 0} (P : A → Type 0) (away : Channel → Bool) (f : A → Channel → A) (ks : List Channel)
    → ((k : Channel) → Memᴰ k ks → away k ≡ true → (v : A) → P v → P (f v k)) → (o : A) → P o → P (over_arms away f o ks)
arms_all {A} P away f ks h o p = arms_related (λ (v : A) (_ : Unit {0}). P v) away f (λ (u : Unit {0}) (k : Channel). u) ks (λ k m e v _ q. h k m e v q) o tt p

-- arms that add the same come to the same
pub arms_same : {A : Type 0} (away : Channel → Bool) (f g : A → Channel → A) (ks : List Channel)
    → ((k : Channel) → Memᴰ k ks → away k ≡ true → (v : A) → f v k ≡ g v k) → (o : A) → over_arms away f o ks ≡ over_arms away g o ks
arms_same {A} away f g ks h o = arms_related (◌≡◌ {A = A}) away f g ks (λ k m e v w q. h k m e v ∙ ap (λ (u : A). g u k) q) o o refl

-- two tests between related things, of which the first holds wherever the second does
ends_related : {A B : Type 0} (R : A → B → Type 0) (t u : Bool) (a x : A) (b y : B)
    → (t ≡ true → (w : B) → (u ≡ true → w ≡ b) → R a w) → (t ≡ false → (u ≡ false) × R x y) → R (cond t a x) (cond u b y)
ends_related R true u a x b y p q = p refl (cond u b y) (λ e. rw e)
ends_related R false u a x b y p q = let z = q refl in rw z.0 z.1

module _ {A B : Type 0} (R : A → B → Type 0) (ks : List Channel) (r : Rule A) (q : Rule B)
    (ended : (n : ℕ) → r.ends n ≡ true → (w : B) → (q.ends n ≡ true → w ≡ q.driven n) → R (r.driven n) w)
    (goes : (n : ℕ) → r.ends n ≡ false → (q.ends n ≡ false) × R (r.own n) (q.own n))
    (add : (k : Channel) → Memᴰ k ks → (v x : A) (w y : B) → R v w → R x y → R (r.add v k x) (q.add w k y)) where
  -- walks by related rules come to related things, where the first ends wherever the second does, or before it
  pub walk_within : (a : ℕ) (from : Option ℕ) (n : ℕ) → R (walk ks r a from n) (walk ks q a from n)
  unfolding walk
  walk_within zero from n = ends_related R (r.ends n) (q.ends n) (r.driven n) (r.own n) (q.driven n) (q.own n) (ended n) (goes n)
  walk_within (suc a) from n =
      let f : A → Channel → A = λ v k. r.add v k (walk ks r a (some k.number) (far_end n k)) in
      let g : B → Channel → B = λ w k. q.add w k (walk ks q a (some k.number) (far_end n k)) in
      let below : (k : Channel) → R (walk ks r a (some k.number) (far_end n k)) (walk ks q a (some k.number) (far_end n k)) = λ k. walk_within a (some k.number) (far_end n k) in
      ends_related R (r.ends n) (q.ends n) (r.driven n) (over_arms (leads from n) f (r.own n) ks) (q.driven n) (over_arms (leads from n) g (q.own n) ks) (ended n)
      (λ e. ((goes n e).0, arms_related R (leads from n) f g ks (λ k m _ v w p. add k m v _ w _ p (below k)) (r.own n) (q.own n) (goes n e).1))

module _ {A B : Type 0} (R : A → B → Type 0) (ks : List Channel) (r : Rule A) (q : Rule B)
    (same : (n : ℕ) → r.ends n ≡ q.ends n)
    (driven : (n : ℕ) → q.ends n ≡ true → R (r.driven n) (q.driven n))
    (own : (n : ℕ) → q.ends n ≡ false → R (r.own n) (q.own n))
    (add : (k : Channel) → Memᴰ k ks → (v x : A) (w y : B) → R v w → R x y → R (r.add v k x) (q.add w k y)) where
  -- so they do where both end at the same nodes
  pub walk_related : (a : ℕ) (from : Option ℕ) (n : ℕ) → R (walk ks r a from n) (walk ks q a from n)
  walk_related a from n =
      walk_within R ks r q
      (λ m e w at. let z : q.ends m ≡ true = sym (same m) ∙ e in rw (at z) (driven m z))
      (λ m e. let z : q.ends m ≡ false = sym (same m) ∙ e in (z, own m z))
      add a from n

-- the node sum is the walk with its rule
pub sum_walk : (c : Circuit) (s : State) (ks : List Channel) (a : ℕ) (from : Option ℕ) (n : ℕ) → node_sum a c s ks from n ≡ walk ks (sum_rule c s) a from n
unfolding node_sum walk
sum_walk c s ks zero from n = refl
sum_walk c s ks (suc a) from n =
    ap (cond (is_driven c n) (driven_sum (value_at s n)))
    (arms_same (leads from n)
    (λ (v : Sum) (k : Channel). join_sums v (arm_of k.transistor (node_sum a c s ks (some k.number) (far_end n k))))
    (λ (v : Sum) (k : Channel). join_sums v (arm_of k.transistor (walk ks (sum_rule c s) a (some k.number) (far_end n k))))
    ks
    (λ k m e v. ap (λ (far : Sum). join_sums v (arm_of k.transistor far)) (sum_walk c s ks a (some k.number) (far_end n k)))
    (own_sum (node_record c n).capacitance (value_at s n)))

-- the delay walk is the walk with its rule
pub load_walk : (sharing : Bool) (new : ℕ) (c : Circuit) (s : State) (ks : List Channel) (a : ℕ) (from : Option ℕ) (n : ℕ) → node_load a sharing new c s ks from n ≡ walk ks (load_rule sharing new c s) a from n
unfolding node_load walk
load_walk sharing new c s ks zero from n = refl
load_walk sharing new c s ks (suc a) from n =
    ap (cond (is_end sharing new c s n) (driven_load new (value_at s n)))
    (arms_same (leads from n)
    (λ (v : Load) (k : Channel). join_loads v (load_arm k.transistor (node_load a sharing new c s ks (some k.number) (far_end n k))))
    (λ (v : Load) (k : Channel). join_loads v (load_arm k.transistor (walk ks (load_rule sharing new c s) a (some k.number) (far_end n k))))
    ks
    (λ k m e v. ap (λ (far : Load). join_loads v (load_arm k.transistor far)) (load_walk sharing new c s ks a (some k.number) (far_end n k)))
    (own_load new (node_record c n).capacitance (value_at s n)))

-- at an end a walk ends, whatever its allowance
pub walk_end : {A : Type 0} (ks : List Channel) (r : Rule A) (a : ℕ) (from : Option ℕ) (n : ℕ) → r.ends n ≡ true → walk ks r a from n ≡ r.driven n
unfolding walk
walk_end ks r zero from n e = rw e
walk_end ks r (suc a) from n e = rw e

-- the node sum at a node after some of its arms
abbrev pub sum_over : ℕ → Circuit → State → List Channel → Option ℕ → ℕ → List Channel → Sum
sum_over a c s ks from n some-arms =
    over_arms (leads from n) (λ (sum : Sum) (k : Channel). join_sums sum (arm_of k.transistor (node_sum a c s ks (some k.number) (far_end n k)))) (own_sum (node_record c n).capacitance (value_at s n)) some-arms

-- the delay walk there
abbrev pub load_over : ℕ → Bool → ℕ → Circuit → State → List Channel → Option ℕ → ℕ → List Channel → Load
load_over a sharing new c s ks from n some-arms =
    over_arms (leads from n) (λ (load : Load) (k : Channel). join_loads load (load_arm k.transistor (node_load a sharing new c s ks (some k.number) (far_end n k)))) (own_load new (node_record c n).capacitance (value_at s n)) some-arms

module _ (c : Circuit) (s : State) (ks : List Channel) where
  -- at a driven end a node sum is the end's
  pub sum_driven : (a : ℕ) (from : Option ℕ) (n : ℕ) → is_driven c n ≡ true → node_sum a c s ks from n ≡ driven_sum (value_at s n)
  sum_driven a from n e = sum_walk c s ks a from n ∙ walk_end ks (sum_rule c s) a from n e

  -- at an inner node with nothing allowed it is the node's own
  pub sum_own : (from : Option ℕ) (n : ℕ) → is_driven c n ≡ false → node_sum zero c s ks from n ≡ own_sum (node_record c n).capacitance (value_at s n)
  unfolding node_sum
  sum_own from n e = rw e

  -- and else that with all of its arms
  pub sum_arms : (a : ℕ) (from : Option ℕ) (n : ℕ) → is_driven c n ≡ false → node_sum (suc a) c s ks from n ≡ sum_over a c s ks from n ks
  unfolding node_sum
  sum_arms a from n e = rw e

  module _ (sharing : Bool) (new : ℕ) where
    -- at an end a delay walk is the end's
    pub load_end : (a : ℕ) (from : Option ℕ) (n : ℕ) → is_end sharing new c s n ≡ true → node_load a sharing new c s ks from n ≡ driven_load new (value_at s n)
    load_end a from n e = load_walk sharing new c s ks a from n ∙ walk_end ks (load_rule sharing new c s) a from n e

    -- at any other node with nothing allowed it is the node's own
    pub load_own : (from : Option ℕ) (n : ℕ) → is_end sharing new c s n ≡ false → node_load zero sharing new c s ks from n ≡ own_load new (node_record c n).capacitance (value_at s n)
    unfolding node_load
    load_own from n e = rw e

    -- and else that with all of its arms
    pub load_arms : (a : ℕ) (from : Option ℕ) (n : ℕ) → is_end sharing new c s n ≡ false → node_load (suc a) sharing new c s ks from n ≡ load_over a sharing new c s ks from n ks
    unfolding node_load
    load_arms a from n e = rw e

-- no number stands twice
unfoldable pub Distinct : List ℕ → Type 0
Distinct [] = Unit
Distinct (x ∷ xs) = (Memᴰ x xs → ⊥) × Distinct xs

-- a list without the first m in it
unfoldable without : ℕ → List ℕ → List ℕ
without m [] = []
without m (x ∷ xs) = cond (eqb x m) xs (x ∷ without m xs)

module _ (m : ℕ) where
  -- a list by its first element, which is m or not
  without_by : (P : List ℕ → Type 0) (x : ℕ) (xs : List ℕ) → (x ≡ m → P xs) → ((x ≡ m → ⊥) → P (x ∷ without m xs)) → P (without m (x ∷ xs))
  unfolding without
  without_by P x xs here there =
      ⊎_elim
      (λ (e : x ≡ m). rw (eq-eqb x m e) (here e))
      (λ (h : x ≡ m → ⊥). rw (ne_eqb x m h) (there h))
      (eq_or_ne x m)

  without_length : (xs : List ℕ) → length xs ≤ suc (length (without m xs))
  unfolding without
  without_length [] = omega arith
  without_length (x ∷ xs) =
      let below : length xs ≤ suc (length (without m xs)) = without_length xs in
      without_by (λ (r : List ℕ). suc (length xs) ≤ suc (length r)) x xs (λ e. omega arith) (λ h. omega arith)

  without_listed : (xs : List ℕ) (y : ℕ) → Memᴰ y (without m xs) → Memᴰ y xs
  unfolding without
  without_listed [] y = λ at. at
  without_listed (x ∷ xs) y =
      let below : Memᴰ y (without m xs) → Memᴰ y xs = λ at. without_listed xs y at in
      without_by (λ (r : List ℕ). Memᴰ y r → Memᴰ y (x ∷ xs)) x xs
      (λ e at. mathlib.Core.List.Memᴰ.tail at)
      (λ h at. ⊎_elim (λ (q : y ≡ x). mathlib.Core.List.Memᴰ.head q) (λ (r : Memᴰ y (without m xs)). mathlib.Core.List.Memᴰ.tail (below r)) (mathlib.Core.List.Memᴰ.cases_cons at))

  without_distinct : (xs : List ℕ) → Distinct xs → Distinct (without m xs)
  unfolding without Distinct
  without_distinct [] d = d
  without_distinct (x ∷ xs) d =
      let below : Distinct (without m xs) = without_distinct xs d.1 in
      without_by Distinct x xs (λ e. d.1) (λ h. (λ at. d.0 (without_listed xs x at), below))

  without_other : (xs : List ℕ) → Distinct xs → Memᴰ m (without m xs) → ⊥
  unfolding without Distinct
  without_other [] d = λ at. mathlib.Core.List.Memᴰ.not-nil at
  without_other (x ∷ xs) d =
      let below : Memᴰ m (without m xs) → ⊥ = λ at. without_other xs d.1 at in
      without_by (λ (r : List ℕ). Memᴰ m r → ⊥) x xs
      (λ e at. d.0 (subst (λ (y : ℕ). Memᴰ y xs) (sym e) at))
      (λ h at. ⊎_elim (λ (q : m ≡ x). h (sym q)) below (mathlib.Core.List.Memᴰ.cases_cons at))

-- of n numbers from k on, no list without repetition has more than n
pub distinct_length : (k n : ℕ) (xs : List ℕ) → Distinct xs → ((x : ℕ) → Memᴰ x xs → (k ≤ x) × (x < k + n)) → length xs ≤ n
distinct_length k zero [] d h = omega arith
distinct_length k zero (x ∷ xs) d h = let b : (k ≤ x) × (x < k + zero) = h x (mathlib.Core.List.Memᴰ.head refl) in absurd (omega arith)
distinct_length k (suc n) xs d h =
    let below : length (without (k + n) xs) ≤ n =
    distinct_length k n (without (k + n) xs) (without_distinct (k + n) xs d)
    (λ x at.
    let b : (k ≤ x) × (x < k + suc n) = h x (without_listed (k + n) xs x at) in
    let ne : x ≡ k + n → ⊥ = λ q. without_other (k + n) xs d (subst (λ (y : ℕ). Memᴰ y (without (k + n) xs)) q at) in
    (b.0, omega arith)) in
    omega (arith, without_length (k + n) xs)

-- the two ends of a channel are n and m
abbrev pub Ends : ℕ → ℕ → Channel → Type 0
Ends n m k = ((k.transistor.first ≡ n) × (k.transistor.second ≡ m)) ⊎ ((k.transistor.first ≡ m) × (k.transistor.second ≡ n))

-- a channel that leads away from a node has the node and its far end for ends, and is not the one by which the node was reached
pub leads_ends : (from : Option ℕ) (n : ℕ) (k : Channel) → leads from n k ≡ true → Ends n (far_end n k) k × (is_the from k.number ≡ false)
leads_ends from n k e =
    let away : Bool = not (is_the from k.number) in
    let touches : Bool = eqb k.transistor.first n || eqb k.transistor.second n in
    (by (eqb k.transistor.first n) refl (and_right away touches e), not-true (is_the from k.number) (and_left away touches e))
  where
    by : (b : Bool) → eqb k.transistor.first n ≡ b → b || eqb k.transistor.second n ≡ true
        → ((k.transistor.first ≡ n) × (k.transistor.second ≡ cond b k.transistor.second k.transistor.first))
        ⊎ ((k.transistor.first ≡ cond b k.transistor.second k.transistor.first) × (k.transistor.second ≡ n))
    by true q t = inl (eqb-true k.transistor.first n q, refl)
    by false q t = inr (refl, eqb-true k.transistor.second n t)

module _ {A : Type 0} (f : ℕ → A) (n m : ℕ) (k : Channel) (e : Ends n m k) where
  -- what is the same at a channel's two ends is the same at n and m
  pub ends_to : f k.transistor.first ≡ f k.transistor.second → f n ≡ f m
  ends_to q =
      ⊎_elim
      (λ (p : (k.transistor.first ≡ n) × (k.transistor.second ≡ m)). ap f (sym p.0) ∙ q ∙ ap f p.1)
      (λ (p : (k.transistor.first ≡ m) × (k.transistor.second ≡ n)). ap f (sym p.1) ∙ sym q ∙ ap f p.0)
      e

  -- and the other way
  pub ends_from : f n ≡ f m → f k.transistor.first ≡ f k.transistor.second
  ends_from q =
      ⊎_elim
      (λ (p : (k.transistor.first ≡ n) × (k.transistor.second ≡ m)). ap f p.0 ∙ q ∙ ap f (sym p.1))
      (λ (p : (k.transistor.first ≡ m) × (k.transistor.second ≡ n)). ap f p.0 ∙ sym q ∙ ap f (sym p.1))
      e

-- what holds of n and m holds of a channel's two ends
pub ends_both : (P : ℕ → Type 0) (n m : ℕ) (k : Channel) → Ends n m k → P n → P m → P k.transistor.first × P k.transistor.second
ends_both P n m k (inl e) p q = (subst P (sym e.0) p, subst P (sym e.1) q)
ends_both P n m k (inr e) p q = (subst P (sym e.0) q, subst P (sym e.1) p)

-- and of n where it holds of both ends
pub ends_near : (P : ℕ → Type 0) (n m : ℕ) (k : Channel) → Ends n m k → P k.transistor.first → P k.transistor.second → P n
ends_near P n m k (inl e) p q = subst P e.0 p
ends_near P n m k (inr e) p q = subst P e.1 q

-- and of m
pub ends_far : (P : ℕ → Type 0) (n m : ℕ) (k : Channel) → Ends n m k → P k.transistor.first → P k.transistor.second → P m
ends_far P n m k (inl e) p q = subst P e.1 q
ends_far P n m k (inr e) p q = subst P e.0 p

-- in a list with rising numbers a channel is known by its number
pub number_one : (ks : List Channel) → Rising ks → (j k : Channel) → Memᴰ j ks → Memᴰ k ks → j.number ≡ k.number → j ≡ k
unfolding Rising
number_one [] r j k mj mk e = absurd (mathlib.Core.List.Memᴰ.not-nil mj)
number_one (x ∷ ks) r j k mj mk e =
    let below : Memᴰ j ks → Memᴰ k ks → j ≡ k = λ aj ak. number_one ks r.1 j k aj ak e in
    ⊎_elim
    (λ (p : j ≡ x). ⊎_elim (λ (q : k ≡ x). p ∙ sym q) (λ (ak : Memᴰ k ks). absurd (lower (r.0 k ak) (ap (λ (u : Channel). u.number) (sym p) ∙ e))) (mathlib.Core.List.Memᴰ.cases_cons mk))
    (λ (aj : Memᴰ j ks). ⊎_elim (λ (q : k ≡ x). absurd (lower (r.0 j aj) (ap (λ (u : Channel). u.number) (sym q) ∙ sym e))) (λ (ak : Memᴰ k ks). below aj ak) (mathlib.Core.List.Memᴰ.cases_cons mk))
    (mathlib.Core.List.Memᴰ.cases_cons mj)
  where
    lower : {a b : ℕ} → a < b → a ≡ b → ⊥
    lower h q = omega arith

-- what the walk's law asks of the channels of a cell
pub record Kept (c : Circuit) (ks : List Channel) : Type 0 where
  pub rising : Rising ks
  pub forest : Forest c ks
  pub legal : (k : Channel) → Memᴰ k ks → LegalTransistor (length c.nodes) k.transistor

-- the kept channels of a cell whose transistors are legal are so, in every state
pub kept_kept : (c : Circuit) (s : State) → AllLegal (length c.nodes) c.transistors → Kept c (kept c s)
kept_kept c s h = record {
  rising = kept_rising c s;
  forest = kept_forest c s h;
  legal = λ k m. h k.transistor (kept_stems c s k m).listed;
}

-- the way to node n, reached by a channel, over the inner nodes ps, the last first
pub record Way (c : Circuit) (ks : List Channel) (from : Option ℕ) (n : ℕ) (ps : List ℕ) : Type 0 where
  pub inner : is_inner c n ≡ true
  pub distinct : Distinct (n ∷ ps)
  pub nodes : (x : ℕ) → Memᴰ x (n ∷ ps) → IsNode (length c.nodes) x
  -- any other channel at n has the whole way on n's side
  pub aside : (k : Channel) → Memᴰ k ks → Inner c k → (m : ℕ) → Ends n m k → is_the from k.number ≡ false → (cut : Cut c ks k) → (x : ℕ) → Memᴰ x ps → cut.side x ≡ cut.side n
  -- the way hangs together
  pub whole : (f : ℕ → Bool)
      → ((k : Channel) → Memᴰ k ks → Inner c k → Memᴰ k.transistor.first (n ∷ ps) → Memᴰ k.transistor.second (n ∷ ps) → f k.transistor.first ≡ f k.transistor.second)
      → (x : ℕ) → Memᴰ x ps → f x ≡ f n

module _ (c : Circuit) (ks : List Channel) (h : Kept c ks) where
  -- the way of a walk that begins at n
  pub way_root : (n : ℕ) → is_inner c n ≡ true → IsNode (length c.nodes) n → Way c ks none n []
  unfolding Distinct
  way_root n e i = record {
    inner = e;
    distinct = (mathlib.Core.List.Memᴰ.not-nil, tt);
    nodes = λ x m. subst (IsNode (length c.nodes)) (sym (⊎_elim (λ (q : x ≡ n). q) (λ (at : Memᴰ x []). absurd (mathlib.Core.List.Memᴰ.not-nil at)) (mathlib.Core.List.Memᴰ.cases_cons m))) i;
    aside = λ k mk ik m en nt cut x at. absurd (mathlib.Core.List.Memᴰ.not-nil at);
    whole = λ f all x at. absurd (mathlib.Core.List.Memᴰ.not-nil at);
  }

  module _ (from : Option ℕ) (n : ℕ) (ps : List ℕ) (w : Way c ks from n ps) (k : Channel) (at : Memᴰ k ks) (away : leads from n k ≡ true)
      (goes : is_inner c (far_end n k) ≡ true) where
    ends : Ends n (far_end n k) k
    ends = (leads_ends from n k away).0

    -- a channel from an inner node to an inner node is between inner nodes
    pub step_inner : Inner c k
    step_inner =
        let two : (is_inner c k.transistor.first ≡ true) × (is_inner c k.transistor.second ≡ true) =
        ends_both (λ (x : ℕ). is_inner c x ≡ true) n (far_end n k) k ends w.inner goes in
        rw two.0 two.1

    cut_of : Cut c ks k
    cut_of = h.forest k at step_inner

    -- over it a walk comes to a node that it has not passed
    pub step_new : Memᴰ (far_end n k) (n ∷ ps) → ⊥
    step_new m =
        cut_of.differs (ends_from cut_of.side n (far_end n k) k ends (⊎_elim
        (λ (q : far_end n k ≡ n). ap cut_of.side (sym q))
        (λ (p : Memᴰ (far_end n k) ps). sym (w.aside k at step_inner (far_end n k) ends (leads_ends from n k away).1 cut_of (far_end n k) p))
        (mathlib.Core.List.Memᴰ.cases_cons m)))

    far_node : IsNode (length c.nodes) (far_end n k)
    far_node =
        let legal : LegalTransistor (length c.nodes) k.transistor = h.legal k at in
        inner_node_lem c (length c.nodes) (far_end n k) goes
        (ends_far (λ (x : ℕ). x < 2 + length c.nodes) n (far_end n k) k ends legal.first_is legal.second_is)

    -- another channel at the far end has the whole way on the far end's side
    far_aside : (j : Channel) → Memᴰ j ks → Inner c j → (m : ℕ) → Ends (far_end n k) m j → is_the (some k.number) j.number ≡ false → (cut : Cut c ks j) → (x : ℕ) → Memᴰ x (n ∷ ps) → cut.side x ≡ cut.side (far_end n k)
    far_aside j mj ij m ej nt cut x mx =
        let other : k.number ≡ j.number → ⊥ = λ q. eqb-false j.number k.number nt (sym q) in
        let near : cut.side n ≡ cut.side (far_end n k) = ends_to cut.side n (far_end n k) k ends (cut.same k at step_inner other) in
        let inside : (u : Channel) → Memᴰ u ks → Inner c u → Memᴰ u.transistor.first (n ∷ ps) → Memᴰ u.transistor.second (n ∷ ps) → cut.side u.transistor.first ≡ cut.side u.transistor.second =
        λ u mu iu mf ms. cut.same u mu iu (λ q. step_new (outside u mu mf ms q)) in
        ⊎_elim
        (λ (q : x ≡ n). ap cut.side q ∙ near)
        (λ (p : Memᴰ x ps). w.whole cut.side inside x p ∙ near)
        (mathlib.Core.List.Memᴰ.cases_cons mx)
      where
        outside : (u : Channel) → Memᴰ u ks → Memᴰ u.transistor.first (n ∷ ps) → Memᴰ u.transistor.second (n ∷ ps) → u.number ≡ j.number → Memᴰ (far_end n k) (n ∷ ps)
        outside u mu mf ms q =
            let one : u ≡ j = number_one ks h.rising u j mu mj q in
            ends_near (λ (y : ℕ). Memᴰ y (n ∷ ps)) (far_end n k) m j ej
            (subst (λ (v : Channel). Memᴰ v.transistor.first (n ∷ ps)) one mf)
            (subst (λ (v : Channel). Memᴰ v.transistor.second (n ∷ ps)) one ms)

    -- the way one channel further
    pub way_step : Way c ks (some k.number) (far_end n k) (n ∷ ps)
    unfolding Distinct
    way_step = record {
      inner = goes;
      distinct = (step_new, w.distinct);
      nodes = λ x m. ⊎_elim (λ (q : x ≡ far_end n k). subst (IsNode (length c.nodes)) (sym q) far_node) (λ (p : Memᴰ x (n ∷ ps)). w.nodes x p) (mathlib.Core.List.Memᴰ.cases_cons m);
      aside = far_aside;
      whole = λ f all x m.
          let near : f n ≡ f (far_end n k) =
          ends_to f n (far_end n k) k ends
          (let two : Memᴰ k.transistor.first (far_end n k ∷ n ∷ ps) × Memᴰ k.transistor.second (far_end n k ∷ n ∷ ps) =
          ends_both (λ (y : ℕ). Memᴰ y (far_end n k ∷ n ∷ ps)) n (far_end n k) k ends (mathlib.Core.List.Memᴰ.tail (mathlib.Core.List.Memᴰ.head refl)) (mathlib.Core.List.Memᴰ.head refl) in
          all k at step_inner two.0 two.1) in
          ⊎_elim
          (λ (q : x ≡ n). ap f q ∙ near)
          (λ (p : Memᴰ x ps). w.whole f (λ u mu iu mf ms. all u mu iu (mathlib.Core.List.Memᴰ.tail mf) (mathlib.Core.List.Memᴰ.tail ms)) x p ∙ near)
          (mathlib.Core.List.Memᴰ.cases_cons m);
    }

  -- a way is no longer than there are node records
  pub way_length : (from : Option ℕ) (n : ℕ) (ps : List ℕ) → Way c ks from n ps → suc (length ps) ≤ length c.nodes
  way_length from n ps w =
      distinct_length 2 (length c.nodes) (n ∷ ps) w.distinct
      (λ x m. let i : IsNode (length c.nodes) x = w.nodes x m in (i.least, i.most))

  module _ {A : Type 0} (r : Rule A) (wide : (n : ℕ) → r.ends n ≡ false → is_driven c n ≡ false) where
    -- a walk on a way does not depend on its allowance, if that lasts for the node records that are not on the way
    pub walk_enough : (a b : ℕ) (from : Option ℕ) (n : ℕ) (ps : List ℕ) → Way c ks from n ps → length c.nodes ≤ a + length ps → length c.nodes ≤ b + length ps
        → walk ks r a from n ≡ walk ks r b from n
    unfolding walk
    walk_enough zero b from n ps w ha hb = absurd (omega (arith, way_length from n ps w))
    walk_enough (suc a) zero from n ps w ha hb = absurd (omega (arith, way_length from n ps w))
    walk_enough (suc a) (suc b) from n ps w ha hb =
        let arm : (k : Channel) → Memᴰ k ks → leads from n k ≡ true → walk ks r a (some k.number) (far_end n k) ≡ walk ks r b (some k.number) (far_end n k) =
        λ k m e.
        ⊎_elim
        (λ (d : r.ends (far_end n k) ≡ true). walk_end ks r a (some k.number) (far_end n k) d ∙ sym (walk_end ks r b (some k.number) (far_end n k) d))
        (λ (d : r.ends (far_end n k) ≡ false).
        walk_enough a b (some k.number) (far_end n k) (n ∷ ps) (way_step from n ps w k m e (ap not (wide (far_end n k) d))) (omega arith) (omega arith))
        (bool_cases (r.ends (far_end n k))) in
        ap (cond (r.ends n) (r.driven n))
        (arms_same (leads from n)
        (λ (v : A) (k : Channel). r.add v k (walk ks r a (some k.number) (far_end n k)))
        (λ (v : A) (k : Channel). r.add v k (walk ks r b (some k.number) (far_end n k)))
        ks (λ k m e v. ap (r.add v k) (arm k m e)) (r.own n))

    -- from the node that a walk is for, one for each node record is enough
    pub root_enough : (a : ℕ) (n : ℕ) → n < 2 + length c.nodes → length c.nodes ≤ a → walk ks r a none n ≡ walk ks r (length c.nodes) none n
    root_enough a n i le =
        ⊎_elim
        (λ (d : r.ends n ≡ true). walk_end ks r a none n d ∙ sym (walk_end ks r (length c.nodes) none n d))
        (λ (d : r.ends n ≡ false).
        let e : is_inner c n ≡ true = ap not (wide n d) in
        walk_enough a (length c.nodes) none n [] (way_root n e (inner_node_lem c (length c.nodes) n e i)) (omega arith) (omega arith))
        (bool_cases (r.ends n))

-- a node where a delay walk goes on is inner
pub not_end_inner : (sharing : Bool) (new : ℕ) (c : Circuit) (s : State) (n : ℕ) → is_end sharing new c s n ≡ false → is_driven c n ≡ false
not_end_inner sharing new c s n e = by (is_driven c n) e
  where
    by : (b : Bool) → (b || (sharing && eqb (value_at s n) new)) ≡ false → b ≡ false
    by true q = q
    by false q = refl

module _ (c : Circuit) (s : State) (h : AllLegal (length c.nodes) c.transistors) (a n : ℕ) (i : n < 2 + length c.nodes) (le : length c.nodes ≤ a) where
  -- a larger allowance changes no node sum
  pub allowance_enough : node_sum a c s (kept c s) none n ≡ node_sum (length c.nodes) c s (kept c s) none n
  allowance_enough =
      sum_walk c s (kept c s) a none n
      ∙ root_enough c (kept c s) (kept_kept c s h) (sum_rule c s) (λ m e. e) a n i le
      ∙ sym (sum_walk c s (kept c s) (length c.nodes) none n)

  -- and no delay
  pub allowance_enough_load : (sharing : Bool) (new : ℕ) → node_load a sharing new c s (kept c s) none n ≡ node_load (length c.nodes) sharing new c s (kept c s) none n
  allowance_enough_load sharing new =
      load_walk sharing new c s (kept c s) a none n
      ∙ root_enough c (kept c s) (kept_kept c s h) (load_rule sharing new c s) (not_end_inner sharing new c s) a n i le
      ∙ sym (load_walk sharing new c s (kept c s) (length c.nodes) none n)
