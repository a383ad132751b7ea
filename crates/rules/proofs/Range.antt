-- The numbers in the walks of a legal cell stay in their ranges. Resistances: by the arithmetic alone. Charges: a walk comes to each inner node
-- once at most, because the kept channels form a forest.
use mathlib.Core.Path.{◌≡◌, refl, sym, ◌∙◌, ap, ap₂, subst}
use mathlib.Core.Logic.{◌⊎◌, inl, inr, ⊎_elim, ⊎_map}
use mathlib.Core.Bool.{Bool, true, false, not, ◌&&◌, ◌||◌, cond, and-false, or-false}
use mathlib.Core.Option.{Option, some, none}
use mathlib.Core.List.Memᴰ
use mathlib.Core.List.{List, [], ◌∷◌, ◌++◌, Memᴰ}
use Prim.Native.Nat.{ℕ, zero, suc, ◌+◌, ◌-◌, ◌*◌, ◌≤◌, ◌<◌}
use native.Mathlib.Omega.{arith}
use lib.ListN.{length, length-append, get_or-eq_default}
use lib.Dec.{eqb, ltb}
use borrow.Author.Tests.{not-true}
use Rattle.lists.proofs.Cases.{bool_cases, eq_or_ne, lt_or_ge}
use Rattle.units.specs.declared.Resistance.{Resistance}
use Rattle.units.specs.declared.Resistance.TheVariants.{Infinite, Finite}
use Rattle.units.specs.declared.Femtofarads.{Femtofarads}
use Rattle.units.specs.declared.Ohms.{Ohms}
use Rattle.units.specs.Units.{ohms, femtofarads}
use Rattle.units.specs.Range.{AtMost, Positive, Divisible}
use Rattle.units.specs.Rules.{ceiling, above, parallel, arm_side}
use Rattle.units.proofs.Laws.{parallel_positive, parallel_at_most, arm_side_at_least, not_above, at_most_ceiling, at_most_weaken, delay_arm_at_most, share_at_most}
use Rattle.format.specs.declared.Node.{Node}
use Rattle.format.specs.declared.Transistor.{Transistor}
use Rattle.format.specs.Circuit.{Circuit, node_record, no_node}
use Rattle.format.specs.Legal.{most_capacitance, most_resistance, most_nodes}
use Rattle.format.proofs.Legal.{LegalCell}
use Rattle.rules.specs.State.{State, value_at, is_driven, is_inner}
use Rattle.rules.specs.Kept.{Channel, kept}
use Rattle.rules.specs.Sum.{Sum, leads, far_end, over_arms, driven_sum, own_sum, arm_of, join_sums, node_sum, infinite, less, decided, new_value}
use Rattle.rules.specs.Delay.{Load, own_load, load_arm, join_loads, is_end, node_load}
use Rattle.rules.proofs.Label.{IsNode, all_legal, inner_node_lem, or_neither}
use Rattle.rules.proofs.Forest.{Inner, Cut, Rising, kept_stems}
use Rattle.rules.proofs.Walk.{Rule, walk, sum_rule, load_rule, arms_all, walk_within, walk_related, sum_walk, load_walk, walk_end, not_end_inner, Distinct, distinct_length, Ends, leads_ends, ends_to, ends_from, ends_both, number_one, Kept, kept_kept, Way, way_root, step_inner, step_new, way_step, sum_driven, sum_own, sum_arms, load_end, load_own, load_arms}

-- the rule of the inner nodes that a walk comes to, in order, as often as it does
abbrev pub pass_rule : Circuit → Rule (List ℕ)
pass_rule c = record { ends = λ n. is_driven c n; driven = λ n. []; own = λ n. n ∷ []; add = λ v k far. v ++ far }

-- those nodes
abbrev pub passed : Circuit → List Channel → ℕ → Option ℕ → ℕ → List ℕ
passed c ks a from n = walk ks (pass_rule c) a from n

-- an element that a list of lists has over the channels that lead away
record Arm (away : Channel → Bool) (g : Channel → List ℕ) (ks : List Channel) (x : ℕ) : Type 0 where
  channel : Channel
  listed : Memᴰ channel ks
  leads_away : away channel ≡ true
  at : Memᴰ x (g channel)

abbrev Apart : List ℕ → List ℕ → Type 0
Apart xs ys = (x : ℕ) → Memᴰ x xs → Memᴰ x ys → ⊥

module _ (away : Channel → Bool) (g : Channel → List ℕ) where
  -- what stands in the lists of all arms stands before them or in one of them
  arms_listed : (ks : List Channel) (o : List ℕ) (x : ℕ) → Memᴰ x (over_arms away (λ v k. v ++ g k) o ks) → Memᴰ x o ⊎ Arm away g ks x
  unfolding over_arms
  arms_listed [] o x m = inl m
  arms_listed (k ∷ ks) o x m =
      ⊎_elim
      (λ (at : Memᴰ x (cond (away k) (o ++ g k) o)). by (away k) refl at)
      (λ (r : Arm away g ks x). inr (record { channel = r.channel; listed = Memᴰ.tail r.listed; leads_away = r.leads_away; at = r.at }))
      (arms_listed ks (cond (away k) (o ++ g k) o) x m)
    where
      by : (b : Bool) → away k ≡ b → Memᴰ x (cond b (o ++ g k) o) → Memᴰ x o ⊎ Arm away g (k ∷ ks) x
      by true e at = ⊎_map (λ (p : Memᴰ x o). p) (λ (p : Memᴰ x (g k)). record { channel = k; listed = Memᴰ.head refl; leads_away = e; at = p }) (Memᴰ.append_cases o at)
      by false e at = inl at

-- the first of a list without repetition does not come again
not_again : (x : ℕ) (xs : List ℕ) → Distinct (x ∷ xs) → Memᴰ x xs → ⊥
unfolding Distinct
not_again x xs d = d.0

-- two lists without repetition and with nothing in common
distinct_append : (xs ys : List ℕ) → Distinct xs → Distinct ys → Apart xs ys → Distinct (xs ++ ys)
unfolding Distinct
distinct_append [] ys d e p = e
distinct_append (x ∷ xs) ys d e p =
    (λ m. ⊎_elim d.0 (p x (Memᴰ.head refl)) (Memᴰ.append_cases xs m), distinct_append xs ys d.1 e (λ y m. p y (Memᴰ.tail m)))

module _ (away : Channel → Bool) (g : Channel → List ℕ) where
  -- the lists of all arms are without repetition where each is and no two have anything in common
  arms_distinct : (ks : List Channel) → Rising ks
      → ((k : Channel) → Memᴰ k ks → away k ≡ true → Distinct (g k))
      → ((j k : Channel) → Memᴰ j ks → Memᴰ k ks → away j ≡ true → away k ≡ true → (k.number ≡ j.number → ⊥) → Apart (g j) (g k))
      → (o : List ℕ) → Distinct o → ((k : Channel) → Memᴰ k ks → away k ≡ true → Apart o (g k)) → Distinct (over_arms away (λ v k. v ++ g k) o ks)
  unfolding over_arms Rising
  arms_distinct [] r one two o d p = d
  arms_distinct (k ∷ ks) r one two o d p =
      arms_distinct ks r.1 (λ j m. one j (Memᴰ.tail m)) (λ i j mi mj. two i j (Memᴰ.tail mi) (Memᴰ.tail mj)) (cond (away k) (o ++ g k) o)
      (whole (away k) refl) (λ j m e. rest (away k) refl j m e)
    where
      whole : (b : Bool) → away k ≡ b → Distinct (cond b (o ++ g k) o)
      whole true e = distinct_append o (g k) d (one k (Memᴰ.head refl) e) (p k (Memᴰ.head refl) e)
      whole false e = d

      later : (j : Channel) → Memᴰ j ks → j.number ≡ k.number → ⊥
      later j m q = let lt : k.number < j.number = r.0 j m in omega arith

      rest : (b : Bool) → away k ≡ b → (j : Channel) → Memᴰ j ks → away j ≡ true → Apart (cond b (o ++ g k) o) (g j)
      rest true e j m f x at =
          ⊎_elim
          (λ (l : Memᴰ x o). p j (Memᴰ.tail m) f x l)
          (λ (l : Memᴰ x (g k)). two k j (Memᴰ.head refl) (Memᴰ.tail m) e f (later j m) x l)
          (Memᴰ.append_cases o at)
      rest false e j m f x at = p j (Memᴰ.tail m) f x at

module _ (c : Circuit) (ks : List Channel) where
  passed_driven : (a : ℕ) (from : Option ℕ) (n : ℕ) → is_driven c n ≡ true → passed c ks a from n ≡ []
  passed_driven a from n e = walk_end ks (pass_rule c) a from n e

  passed_end : (from : Option ℕ) (n : ℕ) → is_driven c n ≡ false → passed c ks zero from n ≡ n ∷ []
  unfolding walk
  passed_end from n e = rw e

  -- what the arms of a node come to
  abbrev arm_passed : ℕ → ℕ → Channel → List ℕ
  arm_passed a n k = passed c ks a (some k.number) (far_end n k)

  passed_arms : (a : ℕ) (from : Option ℕ) (n : ℕ) → is_driven c n ≡ false → passed c ks (suc a) from n ≡ over_arms (leads from n) (λ v k. v ++ arm_passed a n k) (n ∷ []) ks
  unfolding walk
  passed_arms a from n e = rw e

  module _ (h : Kept c ks) where
    -- over a channel to an inner node a walk goes on; at a driven end it has come to nothing
    arm_by : {A : Type 0} (from : Option ℕ) (n : ℕ) (ps : List ℕ) → Way c ks from n ps → (k : Channel) → Memᴰ k ks → leads from n k ≡ true → (a x : ℕ) → Memᴰ x (arm_passed a n k)
        → (is_inner c (far_end n k) ≡ true → Way c ks (some k.number) (far_end n k) (n ∷ ps) → A) → A
    arm_by from n ps w k m e a x at next =
        ⊎_elim
        (λ (d : is_driven c (far_end n k) ≡ true). absurd (Memᴰ.not-nil (subst (Memᴰ x) (passed_driven a (some k.number) (far_end n k) d) at)))
        (λ (d : is_driven c (far_end n k) ≡ false). next (ap not d) (way_step c ks h from n ps w k m e (ap not d)))
        (bool_cases (is_driven c (far_end n k)))

    -- a walk leaves no side of the channels that do not touch its way
    passed_side : (a : ℕ) (from : Option ℕ) (n : ℕ) (ps : List ℕ) → Way c ks from n ps → (f : ℕ → Bool)
        → ((k : Channel) → Memᴰ k ks → Inner c k → (Memᴰ k.transistor.first ps → ⊥) → (Memᴰ k.transistor.second ps → ⊥) → f k.transistor.first ≡ f k.transistor.second)
        → (x : ℕ) → Memᴰ x (passed c ks a from n) → f x ≡ f n
    passed_side zero from n ps w f all x m = ap f (Memᴰ.eq_of_singleton (subst (Memᴰ x) (passed_end from n (not-true (is_driven c n) w.inner)) m))
    passed_side (suc a) from n ps w f all x m =
        let below : (k : Channel) → Way c ks (some k.number) (far_end n k) (n ∷ ps) → Memᴰ x (arm_passed a n k) → f x ≡ f (far_end n k) =
        λ k v at. passed_side a (some k.number) (far_end n k) (n ∷ ps) v f (λ u mu iu nf ns. all u mu iu (λ p. nf (Memᴰ.tail p)) (λ p. ns (Memᴰ.tail p))) x at in
        ⊎_elim
        (λ (at : Memᴰ x (n ∷ [])). ap f (Memᴰ.eq_of_singleton at))
        (λ (r : Arm (leads from n) (arm_passed a n) ks x).
        arm_by from n ps w r.channel r.listed r.leads_away a x r.at (λ i v. below r.channel v r.at ∙ sym (near r i)))
        (arms_listed (leads from n) (arm_passed a n) ks (n ∷ []) x (subst (Memᴰ x) (passed_arms a from n (not-true (is_driven c n) w.inner)) m))
      where
        near : (r : Arm (leads from n) (arm_passed a n) ks x) → is_inner c (far_end n r.channel) ≡ true → f n ≡ f (far_end n r.channel)
        near r i =
            let k : Channel = r.channel in
            let ends : Ends n (far_end n k) k = (leads_ends from n k r.leads_away).0 in
            let away = ends_both (λ (y : ℕ). Memᴰ y ps → ⊥) n (far_end n k) k ends (not_again n ps w.distinct) (λ p. step_new c ks h from n ps w k r.listed r.leads_away i (Memᴰ.tail p)) in
            ends_to f n (far_end n k) k ends (all k r.listed (step_inner c ks h from n ps w k r.listed r.leads_away i) away.0 away.1)

    -- a channel that touches the way is another than one that leads away from it
    off_way : (from : Option ℕ) (n : ℕ) (ps : List ℕ) (j : Channel) → Memᴰ j ks → leads from n j ≡ true → (cut : Cut c ks j)
        → (u : Channel) → Memᴰ u ks → Inner c u → (Memᴰ u.transistor.first (n ∷ ps) → ⊥) → (Memᴰ u.transistor.second (n ∷ ps) → ⊥) → cut.side u.transistor.first ≡ cut.side u.transistor.second
    off_way from n ps j mj ej cut u mu iu nf ns = cut.same u mu iu (λ q. touched (leads_ends from n j ej).0 (number_one ks h.rising u j mu mj q))
      where
        touched : Ends n (far_end n j) j → u ≡ j → ⊥
        touched (inl e) q = nf (Memᴰ.head (ap (λ (v : Channel). v.transistor.first) q ∙ e.0))
        touched (inr e) q = ns (Memᴰ.head (ap (λ (v : Channel). v.transistor.second) q ∙ e.1))

    -- two channels that lead away from a node lead to nothing in common
    arms_apart : (a : ℕ) (from : Option ℕ) (n : ℕ) (ps : List ℕ) → Way c ks from n ps
        → (j k : Channel) → Memᴰ j ks → Memᴰ k ks → leads from n j ≡ true → leads from n k ≡ true → (k.number ≡ j.number → ⊥) → Apart (arm_passed a n j) (arm_passed a n k)
    arms_apart a from n ps w j k mj mk ej ek ne x xj xk =
        arm_by from n ps w j mj ej a x xj (λ ij wj. arm_by from n ps w k mk ek a x xk (λ ik wk.
        let inner-j : Inner c j = step_inner c ks h from n ps w j mj ej ij in
        let inner-k : Inner c k = step_inner c ks h from n ps w k mk ek ik in
        let cut : Cut c ks j = h.forest j mj inner-j in
        let side-j : cut.side x ≡ cut.side (far_end n j) = passed_side a (some j.number) (far_end n j) (n ∷ ps) wj cut.side (off_way from n ps j mj ej cut) x xj in
        let side-k : cut.side x ≡ cut.side (far_end n k) = passed_side a (some k.number) (far_end n k) (n ∷ ps) wk cut.side (off_way from n ps j mj ej cut) x xk in
        let near : cut.side n ≡ cut.side (far_end n k) = ends_to cut.side n (far_end n k) k (leads_ends from n k ek).0 (cut.same k mk inner-k ne) in
        cut.differs (ends_from cut.side n (far_end n j) j (leads_ends from n j ej).0 (near ∙ sym side-k ∙ side-j))))

    -- no channel that leads away from a node leads back to it
    arm_away : (a : ℕ) (from : Option ℕ) (n : ℕ) (ps : List ℕ) → Way c ks from n ps → (k : Channel) → Memᴰ k ks → leads from n k ≡ true → Apart (n ∷ []) (arm_passed a n k)
    arm_away a from n ps w k mk ek x xn xk =
        arm_by from n ps w k mk ek a x xk (λ ik wk.
        let cut : Cut c ks k = h.forest k mk (step_inner c ks h from n ps w k mk ek ik) in
        let side-k : cut.side x ≡ cut.side (far_end n k) = passed_side a (some k.number) (far_end n k) (n ∷ ps) wk cut.side (off_way from n ps k mk ek cut) x xk in
        cut.differs (ends_from cut.side n (far_end n k) k (leads_ends from n k ek).0 (ap cut.side (sym (Memᴰ.eq_of_singleton xn)) ∙ side-k)))

    -- a walk comes to each inner node once at most
    pub passed_once : (a : ℕ) (from : Option ℕ) (n : ℕ) (ps : List ℕ) → Way c ks from n ps → Distinct (passed c ks a from n)
    unfolding Distinct
    passed_once zero from n ps w = subst Distinct (sym (passed_end from n (not-true (is_driven c n) w.inner))) (Memᴰ.not-nil, tt)
    passed_once (suc a) from n ps w =
        let below : (k : Channel) → Way c ks (some k.number) (far_end n k) (n ∷ ps) → Distinct (arm_passed a n k) = λ k v. passed_once a (some k.number) (far_end n k) (n ∷ ps) v in
        let arm : (k : Channel) → Memᴰ k ks → leads from n k ≡ true → Distinct (arm_passed a n k) =
        λ k m e.
        ⊎_elim
        (λ (d : is_driven c (far_end n k) ≡ true). subst Distinct (sym (passed_driven a (some k.number) (far_end n k) d)) tt)
        (λ (d : is_driven c (far_end n k) ≡ false). below k (way_step c ks h from n ps w k m e (ap not d)))
        (bool_cases (is_driven c (far_end n k))) in
        subst Distinct (sym (passed_arms a from n (not-true (is_driven c n) w.inner)))
        (arms_distinct (leads from n) (arm_passed a n) ks h.rising arm (arms_apart a from n ps w) (n ∷ []) (Memᴰ.not-nil, tt) (arm_away a from n ps w))

    -- and to node records alone
    pub passed_nodes : (a : ℕ) (from : Option ℕ) (n : ℕ) (ps : List ℕ) → Way c ks from n ps → (x : ℕ) → Memᴰ x (passed c ks a from n) → IsNode (length c.nodes) x
    passed_nodes zero from n ps w x m = w.nodes x (Memᴰ.head (Memᴰ.eq_of_singleton (subst (Memᴰ x) (passed_end from n (not-true (is_driven c n) w.inner)) m)))
    passed_nodes (suc a) from n ps w x m =
        let below : (k : Channel) → Way c ks (some k.number) (far_end n k) (n ∷ ps) → Memᴰ x (arm_passed a n k) → IsNode (length c.nodes) x =
        λ k v at. passed_nodes a (some k.number) (far_end n k) (n ∷ ps) v x at in
        ⊎_elim
        (λ (at : Memᴰ x (n ∷ [])). w.nodes x (Memᴰ.head (Memᴰ.eq_of_singleton at)))
        (λ (r : Arm (leads from n) (arm_passed a n) ks x). arm_by from n ps w r.channel r.listed r.leads_away a x r.at (λ i v. below r.channel v r.at))
        (arms_listed (leads from n) (arm_passed a n) ks (n ∷ []) x (subst (Memᴰ x) (passed_arms a from n (not-true (is_driven c n) w.inner)) m))

-- the rule of how many inner nodes a walk comes to
abbrev pub reach_rule : Circuit → Rule ℕ
reach_rule c = record { ends = λ n. is_driven c n; driven = λ n. 0; own = λ n. 1; add = λ v k far. v + far }

-- how many they are
abbrev pub reach : Circuit → List Channel → ℕ → Option ℕ → ℕ → ℕ
reach c ks a from n = walk ks (reach_rule c) a from n

module _ (c : Circuit) (ks : List Channel) where
  reach_length : (a : ℕ) (from : Option ℕ) (n : ℕ) → reach c ks a from n ≡ length (passed c ks a from n)
  reach_length a from n =
      walk_related (λ (v : ℕ) (l : List ℕ). v ≡ length l) ks (reach_rule c) (pass_rule c) (λ m. refl) (λ m e. refl) (λ m e. refl)
      (λ k m v x w y p q. let z : length (w ++ y) ≡ length w + length y = length-append w y in omega arith)
      a from n

  module _ (h : Kept c ks) where
    -- a walk on a way comes to no more inner nodes than there are node records
    pub reach_way : (a : ℕ) (from : Option ℕ) (n : ℕ) (ps : List ℕ) → Way c ks from n ps → reach c ks a from n ≤ length c.nodes
    reach_way a from n ps w =
        omega (
          arith,
          reach_length a from n,
          distinct_length 2 (length c.nodes) (passed c ks a from n) (passed_once c ks h a from n ps w)
              (λ x m. let i : IsNode (length c.nodes) x = passed_nodes c ks h a from n ps w x m in (i.least, i.most)),
        )

    -- nor does one from the node that it is for
    pub reach_root : (a n : ℕ) → n < 2 + length c.nodes → reach c ks a none n ≤ length c.nodes
    reach_root a n i =
        ⊎_elim
        (λ (d : is_driven c n ≡ true). omega (arith, walk_end ks (reach_rule c) a none n d))
        (λ (d : is_driven c n ≡ false). reach_way a none n [] (way_root c ks h n (ap not d) (inner_node_lem c (length c.nodes) n (ap not d) i)))
        (bool_cases (is_driven c n))

-- no node has more than the most capacitance
abbrev pub Limited : Circuit → Type 0
Limited c = (n : ℕ) → (node_record c n).capacitance.0 ≤ most_capacitance

-- of a legal cell
pub legal_limited : {c : Circuit} → LegalCell c → Limited c
legal_limited {c} l n =
    ⊎_elim
    (λ (lt : n - 2 < length c.nodes). (l.node (n - 2) lt).most)
    (λ (ge : length c.nodes ≤ n - 2). omega (arith, ap (λ (m : Node). m.capacitance.0) (get_or-eq_default c.nodes no_node {n = n - 2} ge)))
    (lt_or_ge (n - 2) (length c.nodes))

-- A charge of a walk: nothing at a driven end, at most the most capacitance at an inner node by itself, and no more over a channel than the two together.
pub record Charge {A : Type 0} (r : Rule A) (m : A → ℕ) : Type 0 where
  pub driven : (n : ℕ) → m (r.driven n) ≡ 0
  pub own : (n : ℕ) → m (r.own n) ≤ most_capacitance
  pub add : (k : Channel) (v x : A) → m (r.add v k x) ≤ m v + m x

module _ {A : Type 0} (r : Rule A) (m : A → ℕ) (q : Charge r m) (c : Circuit) (wide : (n : ℕ) → r.ends n ≡ false → is_driven c n ≡ false) (ks : List Channel) where
  -- it is at most the most capacitance of each inner node that the walk comes to
  pub charge_reach : (a : ℕ) (from : Option ℕ) (n : ℕ) → m (walk ks r a from n) ≤ most_capacitance * reach c ks a from n
  charge_reach a from n =
      walk_within (λ (v : A) (w : ℕ). m v ≤ most_capacitance * w) ks r (reach_rule c)
      (λ i e w at. omega (arith, q.driven i)) (λ i e. (wide i e, omega (arith, q.own i)))
      (λ k _ v x w y p s. omega (arith, q.add k v x))
      a from n

-- both charges of a sum
abbrev pub total : Sum → ℕ
total v = v.high_charge.0 + v.low_charge.0

module _ (c : Circuit) (s : State) (l : Limited c) where
  -- the charges of a node sum are one
  pub sum_charge : Charge (sum_rule c s) total
  sum_charge = record { driven = λ n. refl; own = λ n. own_most (eqb (value_at s n) 1) (node_record c n).capacitance (l n); add = λ k v x. omega arith }
    where
      own_most : (b : Bool) (f : Femtofarads) → f.0 ≤ most_capacitance → (cond b f (femtofarads 0)).0 + (cond b (femtofarads 0) f).0 ≤ most_capacitance
      own_most true f h = omega arith
      own_most false f h = omega arith

  -- and that of a delay walk is
  pub load_charge : (sharing : Bool) (new : ℕ) → Charge (load_rule sharing new c s) (λ (v : Load). v.charge.0)
  load_charge sharing new = record {
    driven = λ n. refl;
    own = λ n. own_most (eqb (value_at s n) new) (node_record c n).capacitance (l n);
    add = λ k v x. omega (arith, share_at_most k.transistor.resistance x.resistance x.charge);
  }
    where
      own_most : (b : Bool) (f : Femtofarads) → f.0 ≤ most_capacitance → (cond b (femtofarads 0) f).0 ≤ most_capacitance
      own_most true f h = omega arith
      own_most false f h = h

module _ (c : Circuit) (s : State) (l : Limited c) (ks : List Channel) (a : ℕ) (from : Option ℕ) (n : ℕ) where
  -- the charges of a node sum by the inner nodes that its walk comes to
  pub sum_reach : total (node_sum a c s ks from n) ≤ most_capacitance * reach c ks a from n
  sum_reach = subst (λ (v : Sum). total v ≤ most_capacitance * reach c ks a from n) (sym (sum_walk c s ks a from n)) (charge_reach (sum_rule c s) total (sum_charge c s l) c (λ m e. e) ks a from n)

  -- the charge of a delay walk
  pub load_reach : (sharing : Bool) (new : ℕ) → (node_load a sharing new c s ks from n).charge.0 ≤ most_capacitance * reach c ks a from n
  load_reach sharing new =
      subst (λ (v : Load). v.charge.0 ≤ most_capacitance * reach c ks a from n) (sym (load_walk sharing new c s ks a from n))
      (charge_reach (load_rule sharing new c s) (λ (v : Load). v.charge.0) (load_charge c s l sharing new) c (not_end_inner sharing new c s) ks a from n)

module _ (c : Circuit) (legal : LegalCell c) (s : State) (a n : ℕ) (i : n < 2 + length c.nodes) where
  -- a walk over the kept channels of a legal cell comes to 24 inner nodes at most
  pub kept_reach : reach c (kept c s) a none n ≤ most_nodes
  kept_reach = omega (arith, reach_root c (kept c s) (kept_kept c s (all_legal legal)) a n i, legal.limits.most_nodes_lem)

  -- so the charges of a node sum fit, together too
  pub kept_sum_charge : total (node_sum a c s (kept c s) none n) ≤ most_capacitance * most_nodes
  kept_sum_charge = omega (arith, kept_reach, sum_reach c s (legal_limited legal) (kept c s) a none n)

  -- and the charge of a delay walk
  pub kept_load_charge : (sharing : Bool) (new : ℕ) → (node_load a sharing new c s (kept c s) none n).charge.0 ≤ most_capacitance * most_nodes
  kept_load_charge sharing new = omega (arith, kept_reach, load_reach c s (legal_limited legal) (kept c s) a none n sharing new)

-- both sides of a sum are in an arm's range: infinite, or 1 ohm to the ceiling where the walk did not exceed it
pub record SumInRange (v : Sum) : Type 0 where
  pub high : Positive v.high
  pub low : Positive v.low
  pub high_most : v.exceeds ≡ false → AtMost ceiling v.high
  pub low_most : v.exceeds ≡ false → AtMost ceiling v.low

-- each side may be divided by the other, and is at most the ceiling where the walk did not exceed it
pub record SumOfArm (v : Sum) : Type 0 where
  pub high_divides : Divisible v.high v.low
  pub low_divides : Divisible v.low v.high
  pub high_most : v.exceeds ≡ false → AtMost ceiling v.high
  pub low_most : v.exceeds ≡ false → AtMost ceiling v.low

-- no channel of the list is without resistance
abbrev pub Resistive : List Channel → Type 0
Resistive ks = (k : Channel) → Memᴰ k ks → 1 ≤ k.transistor.resistance.0

-- none has more than so many ohms
abbrev pub Weak : ℕ → List Channel → Type 0
Weak m ks = (k : Channel) → Memᴰ k ks → k.transistor.resistance.0 ≤ m

divisible : (side other : Resistance) → Positive other → Divisible side other
divisible Infinite other p = tt
divisible (Finite a) other p = p

-- a sum whose sides are in an arm's range stands behind an arm
pub in_range_arm : (v : Sum) → SumInRange v → SumOfArm v
in_range_arm v h = record {
  high_divides = divisible v.high v.low h.low;
  low_divides = divisible v.low v.high h.high;
  high_most = h.high_most;
  low_most = h.low_most;
}

-- and so does a driven end, of whatever value
pub driven_arm : (value : ℕ) → SumOfArm (driven_sum value)
driven_arm value = by (eqb value 1)
  where
    by : (b : Bool) → SumOfArm (record { high = cond b (Finite (ohms 0)) Infinite; low = cond b Infinite (Finite (ohms 0)); high_charge = femtofarads 0; low_charge = femtofarads 0; exceeds = false })
    by true = record { high_divides = tt; low_divides = tt; high_most = λ _. omega arith; low_most = λ _. tt }
    by false = record { high_divides = tt; low_divides = tt; high_most = λ _. tt; low_most = λ _. omega arith }

-- where an arm does not exceed, nothing behind it does, and neither does a side of its own
pub arm_within : (t : Transistor) (far : Sum) → (arm_of t far).exceeds ≡ false
    → (far.exceeds ≡ false) × (above (arm_of t far).high ≡ false) × (above (arm_of t far).low ≡ false)
arm_within t far e =
    let sides = or_neither (far.exceeds || above (arm_of t far).high) (above (arm_of t far).low) e in
    let far-high = or_neither far.exceeds (above (arm_of t far).high) sides.0 in
    (far-high.0, far-high.1, sides.1)

-- where two joined sums do not, neither does
pub join_within : (a b : Sum) → (join_sums a b).exceeds ≡ false → (a.exceeds ≡ false) × (b.exceeds ≡ false)
join_within a b e = or_neither a.exceeds b.exceeds e

-- an arm is in range, whatever it leads to
pub arm_in_range : (k : Channel) (far : Sum) → 1 ≤ k.transistor.resistance.0 → SumInRange (arm_of k.transistor far)
arm_in_range k far h = record {
  high = arm_side_at_least 1 k.transistor.resistance far.high far.low h;
  low = arm_side_at_least 1 k.transistor.resistance far.low far.high h;
  high_most = λ e. not_above (arm_of k.transistor far).high (arm_within k.transistor far e).1;
  low_most = λ e. not_above (arm_of k.transistor far).low (arm_within k.transistor far e).2;
}

-- a node by itself is
own_in_range : (capacitance : Femtofarads) (value : ℕ) → SumInRange (own_sum capacitance value)
own_in_range capacitance value = record { high = tt; low = tt; high_most = λ _. tt; low_most = λ _. tt }

-- and so is a node sum after any arms
pub arms_in_range : (away : Channel → Bool) (g : Channel → Sum) (some-arms : List Channel) → Resistive some-arms → (capacitance : Femtofarads) (value : ℕ)
    → SumInRange (over_arms away (λ (sum : Sum) (k : Channel). join_sums sum (arm_of k.transistor (g k))) (own_sum capacitance value) some-arms)
arms_in_range away g some-arms h capacitance value =
    arms_all SumInRange away (λ (sum : Sum) (k : Channel). join_sums sum (arm_of k.transistor (g k))) some-arms
    (λ k m _ v p.
    let q : SumInRange (arm_of k.transistor (g k)) = arm_in_range k (g k) (h k m) in
    record {
      high = parallel_positive v.high _ p.high q.high;
      low = parallel_positive v.low _ p.low q.low;
      high_most = λ e. parallel_at_most ceiling v.high _ (p.high_most (join_within v (arm_of k.transistor (g k)) e).0) (q.high_most (join_within v (arm_of k.transistor (g k)) e).1);
      low_most = λ e. parallel_at_most ceiling v.low _ (p.low_most (join_within v (arm_of k.transistor (g k)) e).0) (q.low_most (join_within v (arm_of k.transistor (g k)) e).1);
    })
    (own_sum capacitance value) (own_in_range capacitance value)

-- the resistance of a delay walk after any arms is not 0
pub load_arms_positive : (away : Channel → Bool) (g : Channel → Load) (some-arms : List Channel) → Resistive some-arms → (new : ℕ) (capacitance : Femtofarads) (value : ℕ)
    → Positive (over_arms away (λ (load : Load) (k : Channel). join_loads load (load_arm k.transistor (g k))) (own_load new capacitance value) some-arms).resistance
load_arms_positive away g some-arms h new capacitance value =
    arms_all (λ (v : Load). Positive v.resistance) away (λ (load : Load) (k : Channel). join_loads load (load_arm k.transistor (g k))) some-arms
    (λ k m _ v p. parallel_positive v.resistance _ p (arm_side_at_least 1 k.transistor.resistance (g k).resistance Infinite (h k m)))
    (own_load new capacitance value) tt

-- and is at most m × (a + 1) where no channel has more than m ohms and what lies behind each has at most m × a
pub load_arms_at_most : (m a : ℕ) (away : Channel → Bool) (g : Channel → Load) (some-arms : List Channel) → Weak m some-arms
    → ((k : Channel) → AtMost (m * a) (g k).resistance) → (new : ℕ) (capacitance : Femtofarads) (value : ℕ)
    → AtMost (m * suc a) (over_arms away (λ (load : Load) (k : Channel). join_loads load (load_arm k.transistor (g k))) (own_load new capacitance value) some-arms).resistance
load_arms_at_most m a away g some-arms h behind new capacitance value =
    arms_all (λ (v : Load). AtMost (m * suc a) v.resistance) away (λ (load : Load) (k : Channel). join_loads load (load_arm k.transistor (g k))) some-arms
    (λ k i _ v p. parallel_at_most (m * suc a) v.resistance _ p (delay_arm_at_most m a k.transistor.resistance (g k).resistance (h k i) (behind k)))
    (own_load new capacitance value) tt

module _ (c : Circuit) (s : State) (ks : List Channel) (h : Resistive ks) where
  -- the sides of an inner node's sum are infinite, or 1 ohm to the ceiling unless the walk exceeds it
  pub sum_in_range : (a : ℕ) (from : Option ℕ) (n : ℕ) → is_driven c n ≡ false → SumInRange (node_sum a c s ks from n)
  sum_in_range zero from n e = subst SumInRange (sym (sum_own c s ks from n e)) (own_in_range (node_record c n).capacitance (value_at s n))
  sum_in_range (suc a) from n e =
      subst SumInRange (sym (sum_arms c s ks a from n e))
      (arms_in_range (leads from n) (λ (k : Channel). node_sum a c s ks (some k.number) (far_end n k)) ks h (node_record c n).capacitance (value_at s n))

  -- the sum of any node may stand behind an arm: no divisor is 0, and no side is above the ceiling unless the walk exceeds it
  pub sum_of_arm : (a : ℕ) (from : Option ℕ) (n : ℕ) → SumOfArm (node_sum a c s ks from n)
  sum_of_arm a from n =
      ⊎_elim
      (λ (e : is_driven c n ≡ true). subst SumOfArm (sym (sum_driven c s ks a from n e)) (driven_arm (value_at s n)))
      (λ (e : is_driven c n ≡ false). in_range_arm (node_sum a c s ks from n) (sum_in_range a from n e))
      (bool_cases (is_driven c n))

  module _ (sharing : Bool) (new : ℕ) where
    -- where a delay walk goes on, its resistance is not 0
    pub load_positive : (a : ℕ) (from : Option ℕ) (n : ℕ) → is_end sharing new c s n ≡ false → Positive (node_load a sharing new c s ks from n).resistance
    load_positive zero from n e = subst (λ (v : Load). Positive v.resistance) (sym (load_own c s ks sharing new from n e)) tt
    load_positive (suc a) from n e =
        subst (λ (v : Load). Positive v.resistance) (sym (load_arms c s ks sharing new a from n e))
        (load_arms_positive (leads from n) (λ (k : Channel). node_load a sharing new c s ks (some k.number) (far_end n k)) ks h new (node_record c n).capacitance (value_at s n))

module _ (c : Circuit) (s : State) (ks : List Channel) (m : ℕ) (h : Weak m ks) (sharing : Bool) (new : ℕ) where
  -- at an end it is 0 or infinite
  either : (most a : ℕ) (from : Option ℕ) (n : ℕ) → (is_end sharing new c s n ≡ false → AtMost most (node_load a sharing new c s ks from n).resistance) → AtMost most (node_load a sharing new c s ks from n).resistance
  either most a from n on =
      ⊎_elim
      (λ (e : is_end sharing new c s n ≡ true). subst (λ (v : Load). AtMost most v.resistance) (sym (load_end c s ks sharing new a from n e)) (by (eqb (value_at s n) new)))
      on
      (bool_cases (is_end sharing new c s n))
    where
      by : (b : Bool) → AtMost most (cond b (Finite (ohms 0)) Infinite)
      by true = omega arith
      by false = tt

  -- the resistance of a delay walk is at most that of as many transistors in a row as it may pass: it never exceeds the ceiling
  pub load_at_most : (a : ℕ) (from : Option ℕ) (n : ℕ) → AtMost (m * a) (node_load a sharing new c s ks from n).resistance
  load_at_most zero from n = either (m * 0) zero from n (λ e. subst (λ (v : Load). AtMost (m * 0) v.resistance) (sym (load_own c s ks sharing new from n e)) tt)
  load_at_most (suc a) from n =
      either (m * suc a) (suc a) from n
      (λ e. subst (λ (v : Load). AtMost (m * suc a) v.resistance) (sym (load_arms c s ks sharing new a from n e))
      (load_arms_at_most m a (leads from n) (λ (k : Channel). node_load a sharing new c s ks (some k.number) (far_end n k)) ks h
      (λ k. load_at_most a (some k.number) (far_end n k)) new (node_record c n).capacitance (value_at s n)))

-- no kept channel of a legal cell has more ohms than a transistor may have
kept_weak : (c : Circuit) → LegalCell c → (s : State) → Weak most_resistance (kept c s)
kept_weak c legal s k m = (all_legal legal k.transistor (kept_stems c s k m).listed).most

-- Which walks can exceed the ceiling (document 02, wish 3): that of a node sum. The delay walk of a legal cell can't: 24 transistors in a row have
-- 5,760,000 ohm at most.
pub delay_never_exceeds : (c : Circuit) → LegalCell c → (s : State) (sharing : Bool) (new : ℕ) (from : Option ℕ) (n : ℕ)
    → above (node_load (length c.nodes) sharing new c s (kept c s) from n).resistance ≡ false
delay_never_exceeds c legal s sharing new from n =
    at_most_ceiling (node_load (length c.nodes) sharing new c s (kept c s) from n).resistance
    (at_most_weaken (node_load (length c.nodes) sharing new c s (kept c s) from n).resistance (omega (arith, legal.limits.most_nodes_lem))
    (load_at_most c s (kept c s) most_resistance (kept_weak c legal s) sharing new (length c.nodes) from n))

-- two in parallel are infinite exactly where both are
infinite_parallel : (a b : Resistance) → infinite (parallel a b) ≡ infinite a && infinite b
unfolding parallel
infinite_parallel Infinite b = refl
infinite_parallel (Finite a) Infinite = refl
infinite_parallel (Finite a) (Finite b) = refl

-- an arm's side is infinite exactly where the far node's is
infinite_arm : (r : Ohms) (side other : Resistance) → infinite (arm_side r side other) ≡ infinite side
unfolding arm_side
infinite_arm r Infinite other = refl
infinite_arm r (Finite side) Infinite = refl
infinite_arm r (Finite side) (Finite other) = refl

pub infinite_join : (r : Ohms) (a side other : Resistance) → infinite (parallel a (arm_side r side other)) ≡ infinite a && infinite side
infinite_join r a side other = infinite_parallel a (arm_side r side other) ∙ ap (λ (b : Bool). infinite a && b) (infinite_arm r side other)

-- arms of two walks that are infinite alike
infinite_alike : (r : Ohms) (a b x y other more : Resistance) → infinite a ≡ infinite b → infinite x ≡ infinite y → infinite (parallel a (arm_side r x other)) ≡ infinite (parallel b (arm_side r y more))
infinite_alike r a b x y other more p q = infinite_join r a x other ∙ ap₂ ◌&&◌ p q ∙ sym (infinite_join r b y more)

module _ (c : Circuit) (s : State) (ks : List Channel) where
  -- by a walk that ends at driven ends alone, the delay's resistance to 1 is infinite exactly where the high side of the node sum is
  pub load_high : (a : ℕ) (from : Option ℕ) (n : ℕ) → infinite (node_load a false 1 c s ks from n).resistance ≡ infinite (node_sum a c s ks from n).high
  load_high a from n =
      ap (λ (v : Load). infinite v.resistance) (load_walk false 1 c s ks a from n)
      ∙ walk_related (λ (v : Load) (w : Sum). infinite v.resistance ≡ infinite w.high) ks (load_rule false 1 c s) (sum_rule c s)
      (λ m. or-false (is_driven c m)) (λ m e. refl) (λ m e. refl)
      (λ k _ v x w y p q. infinite_alike k.transistor.resistance v.resistance w.high x.resistance y.high Infinite y.low p q)
      a from n
      ∙ ap (λ (v : Sum). infinite v.high) (sym (sum_walk c s ks a from n))

  -- and to 0 where the low side is, where each driven end is at 0 or 1
  pub load_low : ((m : ℕ) → is_driven c m ≡ true → value_at s m ≤ 1) → (a : ℕ) (from : Option ℕ) (n : ℕ) → infinite (node_load a false 0 c s ks from n).resistance ≡ infinite (node_sum a c s ks from n).low
  load_low two a from n =
      ap (λ (v : Load). infinite v.resistance) (load_walk false 0 c s ks a from n)
      ∙ walk_related (λ (v : Load) (w : Sum). infinite v.resistance ≡ infinite w.low) ks (load_rule false 0 c s) (sum_rule c s)
      (λ m. or-false (is_driven c m)) (λ m e. end (value_at s m) (two m e)) (λ m e. refl)
      (λ k _ v x w y p q. infinite_alike k.transistor.resistance v.resistance w.low x.resistance y.low Infinite y.high p q)
      a from n
      ∙ ap (λ (v : Sum). infinite v.low) (sym (sum_walk c s ks a from n))
    where
      end : (value : ℕ) → value ≤ 1 → infinite (cond (eqb value 0) (Finite (ohms 0)) Infinite) ≡ infinite (cond (eqb value 1) Infinite (Finite (ohms 0)))
      end value h =
          ⊎_elim
          (λ (e : value ≡ 0). rw e)
          (λ (ne : value ≡ 0 → ⊥). let e : value ≡ 1 = omega arith in rw e)
          (eq_or_ne value 0)

less_finite : (a b : Resistance) → less a b ≡ true → infinite a ≡ false
less_finite Infinite b e = sym e
less_finite (Finite a) b e = refl

-- where the new value is another than the present, the side of the new value is infinite only if both are
pub new_side : (v : Sum) (present : ℕ) → (new_value v present ≡ present → ⊥)
    → ((new_value v present ≡ 1) × (infinite v.high ≡ infinite v.high && infinite v.low)) ⊎ ((new_value v present ≡ 0) × (infinite v.low ≡ infinite v.high && infinite v.low))
unfolding new_value
new_side v present ne = by (infinite v.high) (infinite v.low) refl refl ne
  where
    Claim : ℕ → Bool → Bool → Type 0
    Claim new h l = ((new ≡ 1) × (h ≡ h && l)) ⊎ ((new ≡ 0) × (l ≡ h && l))

    by_charge : (x y : Bool) → (decided x y present ≡ present → ⊥) → Claim (decided x y present) true true
    by_charge true y n = inl (refl, refl)
    by_charge false true n = inr (refl, refl)
    by_charge false false n = absurd (n refl)

    by_side : (h l : Bool) → infinite v.high ≡ h → infinite v.low ≡ l → (x y : Bool) → less v.high v.low ≡ x → less v.low v.high ≡ y → (decided x y present ≡ present → ⊥) → Claim (decided x y present) h l
    by_side h l eh el true y p q n = inl (refl, side)
      where
        side : h ≡ h && l
        side = let z : h ≡ false = sym eh ∙ less_finite v.high v.low p in rw z
    by_side h l eh el false true p q n = inr (refl, side)
      where
        side : l ≡ h && l
        side = let z : l ≡ false = sym el ∙ less_finite v.low v.high q in rw (z, and-false h)
    by_side h l eh el false false p q n = absurd (n refl)

    by : (h l : Bool) → infinite v.high ≡ h → infinite v.low ≡ l
        → (cond (h && l) (decided (ltb v.low_charge.0 v.high_charge.0) (ltb v.high_charge.0 v.low_charge.0) present) (decided (less v.high v.low) (less v.low v.high) present) ≡ present → ⊥)
        → Claim (cond (h && l) (decided (ltb v.low_charge.0 v.high_charge.0) (ltb v.high_charge.0 v.low_charge.0) present) (decided (less v.high v.low) (less v.low v.high) present)) h l
    by true true eh el n = by_charge (ltb v.low_charge.0 v.high_charge.0) (ltb v.high_charge.0 v.low_charge.0) n
    by true false eh el n = by_side true false eh el (less v.high v.low) (less v.low v.high) refl refl n
    by false l eh el n = by_side false l eh el (less v.high v.low) (less v.low v.high) refl refl n
