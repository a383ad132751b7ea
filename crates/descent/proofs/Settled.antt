-- What the right numbers of a pattern settle is the next change that the rules give.
use mathlib.Core.Path.{◌≡◌, refl, sym, ◌∙◌, ap, subst}
use mathlib.Core.Logic.{◌⊎◌, inl, inr, ⊎_elim}
use mathlib.Core.List.{List, Memᴰ}
use mathlib.Core.Bool.{Bool, true, false, not, ◌||◌, cond}
use Prim.Native.Nat.{ℕ, ◌+◌, ◌-◌, ◌<◌}
use native.Mathlib.Omega.{arith}
use lib.ListN.{length, get_or}
use lib.Dec.{eqb}
use Rattle.lists.proofs.Cases.{bool_cases, and_left, and_right, and_both, or_cases, or_left, or_right, true_false, bool_ext}
use Rattle.format.specs.declared.Transistor.{Transistor}
use Rattle.format.specs.Circuit.{Circuit, no_transistor}
use Rattle.format.proofs.Legal.{LegalCell}
use Rattle.rules.specs.State.{State, value_at, change_at, is_driven, is_inner}
use Rattle.rules.specs.Label.{Labels, joined, pieces, only}
use Rattle.rules.specs.Group.{groups, in_group, of_group, is_seed}
use Rattle.rules.specs.Reach.{reconsidered}
use Rattle.rules.specs.Kept.{Channel, kept}
use Rattle.rules.specs.Matrix.{carriers}
use Rattle.rules.proofs.State.{Numbered, Shaped}
use Rattle.rules.proofs.Label.{IsNode, AllLegal, all_legal, Joined, joined_refl, joined_trans, Linked, linked_same, linked_over, pieces_only, pieces_join, groups_join}
use Rattle.rules.proofs.Reach.{touched_seed, seed_touched, test_seed, seed_test, seed_node, reconsidered_kept, group_path}
use Rattle.rules.proofs.Forest.{kept_stems}
use Rattle.rules.proofs.Local.{touches, Shared, Local}
use Rattle.net.specs.Roots.{kept_place, pending_place}
use Rattle.plain.specs.Exceeded.{change_or_exceeded}
use Rattle.plain.specs.Leaf.{kept_by, is_kept, leaf_state, leaf_channels}
use Rattle.plain.specs.Settle.{pending_after}
use Rattle.plain.proofs.Exceeding.{or_exceeded_local}
use Rattle.descent.specs.Settle.{is_seeded, is_off, parts, is_reached, pending_of, settled_at, is_of}
use Rattle.descent.proofs.Channels.{by_only, kept_by_lem, leaf_change_lem, leaf_values}
use Rattle.descent.proofs.Reaching.{flags_of, flags_listed, reached_seed, seed_reached}

-- a flag that is a bit
kept_flag : (b : Bool) {v : ℕ} → v ≡ cond b 1 0 → eqb v 1 ≡ b
kept_flag true e = rw e
kept_flag false e = rw e

on_flag : (b : Bool) {v : ℕ} → v ≡ cond b 1 0 → not (eqb v 0) ≡ true → b ≡ true
on_flag true e h = refl
on_flag false e h = rw e at h

flag_on : (b : Bool) {v : ℕ} → v ≡ cond b 1 0 → b ≡ true → not (eqb v 0) ≡ true
flag_on true e h = rw e
flag_on false e h = true_false false h refl

-- the numbers of a pattern are right for the kept transistors of n's group
abbrev pub RightKept : Circuit → State → ℕ → List ℕ → Type 0
RightKept c after n numbers =
    (i : ℕ) → i < length c.transistors → of_group c n (get_or c.transistors i no_transistor) ≡ true → get_or numbers (kept_place + i) 0 ≡ cond (is_of (kept c after) i) 1 0

-- The numbers of a pattern are right for node n and a pending change: the values are those after all of T, the seeds of its group are those between the
-- two states, or all its nodes where `all`, and where there is one the kept transistors of the group are the kept ones.
pub record Right (c : Circuit) (before after : State) (pending n : ℕ) (all : Bool) (numbers : List ℕ) : Type 0 where
  pub values : (m : ℕ) → Numbered c m → get_or numbers m 0 ≡ value_at after m
  pub seeds : (m : ℕ) → Numbered c m → in_group c n m ≡ true → is_seeded numbers m ≡ all || is_seed c before after m
  pub pends : get_or numbers pending_place 0 ≡ pending
  pub keeps : (m : ℕ) → Numbered c m → in_group c n m ≡ true → is_seeded numbers m ≡ true → RightKept c after n numbers

module _ (c : Circuit) (l : LegalCell c) (n : ℕ) where
  legal : AllLegal (length c.nodes) c.transistors
  legal = all_legal l

  -- the far end of a channel at a node of the group is in the group or driven
  across : (x y : ℕ) → in_group c n x ≡ true → (is_inner c x ≡ true → is_inner c y ≡ true → Linked c c.transistors x y) → (in_group c n y ≡ true) ⊎ (is_driven c y ≡ true)
  across x y e link =
      ⊎_elim
      (λ (d : is_driven c y ≡ true). inr d)
      (λ (d : is_driven c y ≡ false).
      let inner : is_inner c y ≡ true = ap not d in
      inl (and_both (is_inner c y) (joined (groups c) n y) inner
      (joined_trans (groups c) n x y (and_right (is_inner c x) (joined (groups c) n x) e) (groups_join c legal x y (link (and_left (is_inner c x) (joined (groups c) n x) e) inner)))))
      (bool_cases (is_driven c y))

  -- so each end of a transistor of the group is
  pub group_ends : (t : Transistor) → Memᴰ t c.transistors → of_group c n t ≡ true
      → ((in_group c n t.first ≡ true) ⊎ (is_driven c t.first ≡ true)) × ((in_group c n t.second ≡ true) ⊎ (is_driven c t.second ≡ true))
  group_ends t at e =
      let link : is_inner c t.first ≡ true → is_inner c t.second ≡ true → Linked c c.transistors t.first t.second =
      λ a b. linked_over (record { transistor = t; listed = at; inner = and_both (is_inner c t.first) (is_inner c t.second) a b; ends = inl (refl, refl) }) (linked_same refl) in
      let back : is_inner c t.second ≡ true → is_inner c t.first ≡ true → Linked c c.transistors t.second t.first =
      λ b a. linked_over (record { transistor = t; listed = at; inner = and_both (is_inner c t.first) (is_inner c t.second) a b; ends = inr (refl, refl) }) (linked_same refl) in
      ⊎_elim
      (λ (i : in_group c n t.first ≡ true). (inl i, across t.first t.second i link))
      (λ (o : in_group c n t.first ≡ false).
      let i : in_group c n t.second ≡ true = rw o at e in
      (across t.second t.first i back, inl i))
      (bool_cases (in_group c n t.first))

  module _ (s : State) (shaped : Shaped c s) (numbers : List ℕ) (q : ℕ)
      (values : (m : ℕ) → Numbered c m → get_or numbers m 0 ≡ value_at s m) (keeps : RightKept c s n numbers) where
    -- the state and the channels of the numbers are the same as the rules' at the group
    group_local : Local c (in_group c n) s (kept c s) (leaf_state c q numbers) (leaf_channels c numbers)
    group_local =
        let all : (m : ℕ) → value_at s m ≡ value_at (leaf_state c q numbers) m = leaf_values c q numbers s shaped values in
        let pass : (m : ℕ) → (in_group c n m ≡ true) ⊎ (is_driven c m ≡ true) → Shared c (in_group c n) s (leaf_state c q numbers) m =
        λ m. ⊎_elim (λ (i : in_group c n m ≡ true). inl i) (λ (d : is_driven c m ≡ true). inr (d, all m)) in
        record {
          same =
              ap (only (touches (in_group c n))) (kept_by_lem c s)
              ∙ by_only (in_group c n) (is_of (kept c s)) (is_kept numbers) 0 c.transistors
              (λ j _ l e.
              let z : j - 0 ≡ j = omega arith in
              sym (kept_flag (is_of (kept c s) j) (keeps j (omega arith) (subst (λ (i : ℕ). of_group c n (get_or c.transistors i no_transistor) ≡ true) z e))));
          ends = λ k m e.
              let two = group_ends k.transistor (kept_stems c s k m).listed e in
              (pass k.transistor.first two.0, pass k.transistor.second two.1);
          values = λ m _. all m;
        }

    -- so the node has the same next change
    group_change : (time : ℕ) → is_inner c n ≡ true → Numbered c n → change_at s n ≡ q
        → change_or_exceeded c time (leaf_state c q numbers) (leaf_channels c numbers) n ≡ change_or_exceeded c time s (kept c s) n
    group_change time inner own e =
        sym (or_exceeded_local group_local n (and_both (is_inner c n) (joined (groups c) n n) inner (joined_refl (groups c) n)) time (e ∙ sym (leaf_change_lem c q numbers n own)))

  module _ (inner : is_inner c n ≡ true) (own : Numbered c n) (numbers : List ℕ) where
    node : IsNode (length c.nodes) n
    node = record { least = own.least; most = own.most }

    own_group : in_group c n n ≡ true
    own_group = and_both (is_inner c n) (joined (groups c) n n) inner (joined_refl (groups c) n)

    module _ {before after : State} {pending : ℕ} {all : Bool} (r : Right c before after pending n all numbers) where
      abbrev on : ℕ → Bool
      on i = not (is_off numbers i)

      abbrev ons : List Transistor
      ons = carriers (kept_by on 0 c.transistors)

      abbrev keeping : List Transistor
      keeping = carriers (kept_by (is_of (kept c after)) 0 c.transistors)

      by_flags : (f : ℕ → Bool) → (t : Transistor) → Memᴰ t (carriers (kept_by f 0 c.transistors)) → Memᴰ t c.transistors
      by_flags f t m = flags_of c f t m

      list_legal : (f : ℕ → Bool) → AllLegal (length c.nodes) (carriers (kept_by f 0 c.transistors))
      list_legal f t m = legal t (by_flags f t m)

      by_kept : pieces c keeping ≡ pieces c (carriers (kept c after))
      by_kept = ap (λ (ks : List Channel). pieces c (carriers ks)) (sym (kept_by_lem c after))

      -- where a seed of the group is known, the channels that are on lead where the kept ones do
      module _ (keeps : RightKept c after n numbers) where
        to_kept : {y : ℕ} → Linked c ons n y → (in_group c n y ≡ true) × Linked c keeping n y
        to_kept =
            group_path c l n ons keeping (by_flags on)
            (λ t m g. flags_listed c on (is_of (kept c after)) (λ u. of_group c n u ≡ true) (λ i h o e. on_flag (is_of (kept c after) i) (keeps i h o) e) t m g) own_group

        from_kept : {y : ℕ} → Linked c keeping n y → (in_group c n y ≡ true) × Linked c ons n y
        from_kept =
            group_path c l n keeping ons (by_flags (is_of (kept c after)))
            (λ t m g. flags_listed c (is_of (kept c after)) on (λ u. of_group c n u ≡ true) (λ i h o e. flag_on (is_of (kept c after) i) (keeps i h o) e) t m g) own_group

      -- any path stays in the group
      in_group_lem : (f : ℕ → Bool) {y : ℕ} → Linked c (carriers (kept_by f 0 c.transistors)) n y → in_group c n y ≡ true
      in_group_lem f way = (group_path c l n (carriers (kept_by f 0 c.transistors)) c.transistors (by_flags f) (λ t m g. by_flags f t m) own_group way).0

      numbered_of : {m : ℕ} → IsNode (length c.nodes) m → Numbered c m
      numbered_of h = record { least = h.least; most = h.most }

      -- so the numbers reach a seed exactly where the rule does
      reached_right : is_reached c n numbers ≡ all || reconsidered c before after n
      reached_right = bool_ext _ _ there back
        where
          there : is_reached c n numbers ≡ true → all || reconsidered c before after n ≡ true
          there e =
              let s = reached_seed c n numbers e in
              let way : Linked c ons n s.0 = pieces_only c ons (list_legal on) n s.0 node s.1 s.3 in
              let at : in_group c n s.0 ≡ true = in_group_lem on way in
              let seed : all || is_seed c before after s.0 ≡ true = sym (r.seeds s.0 (numbered_of s.1) at) ∙ s.2 in
              let kept-way = to_kept (r.keeps s.0 (numbered_of s.1) at s.2) way in
              ⊎_elim
              (λ (a : all ≡ true). or_left all _ a)
              (λ (a : is_seed c before after s.0 ≡ true).
              or_right all _
              (and_both (is_inner c n) _ inner
              (reconsidered_kept c l before after n node
              ∙ seed_touched c (pieces c (carriers (kept c after))) before after n s.0 (test_seed c before after s.0 s.1 (λ m q. seed_node c l before after q) a)
              (subst (λ (ls : Labels). Joined ls n s.0) by_kept (pieces_join c keeping (list_legal (is_of (kept c after))) n s.0 kept-way.1)))))
              (or_cases all (is_seed c before after s.0) seed)

          back : all || reconsidered c before after n ≡ true → is_reached c n numbers ≡ true
          back e =
              ⊎_elim
              (λ (a : all ≡ true).
              seed_reached c n numbers n node (r.seeds n own own_group ∙ or_left all (is_seed c before after n) a) (joined_refl (parts c numbers) n))
              (λ (a : reconsidered c before after n ≡ true).
              let s = touched_seed c (pieces c (carriers (kept c after))) before after n (sym (reconsidered_kept c l before after n node) ∙ and_right (is_inner c n) _ a) in
              let m-node : IsNode (length c.nodes) s.0 = seed_node c l before after s.1 in
              let way : Linked c keeping n s.0 = pieces_only c keeping (list_legal (is_of (kept c after))) n s.0 node m-node (subst (λ (ls : Labels). Joined ls n s.0) (sym by_kept) s.2) in
              let at : in_group c n s.0 ≡ true = in_group_lem (is_of (kept c after)) way in
              let seeded : is_seeded numbers s.0 ≡ true = r.seeds s.0 (numbered_of m-node) at ∙ or_right all (is_seed c before after s.0) (seed_test c before after s.0 m-node s.1) in
              let on-way = from_kept (r.keeps s.0 (numbered_of m-node) at seeded) way in
              seed_reached c n numbers s.0 m-node seeded (pieces_join c ons (list_legal on) n s.0 on-way.1))
              (or_cases all (reconsidered c before after n) e)

    -- by the right numbers: the next change by rules 5 to 7 where the node is reconsidered, else the pending one
    pub settled : (time : ℕ) (before after : State) (pending : ℕ) (all : Bool) → Shaped c after → change_at after n ≡ pending_after time pending → Right c before after pending n all numbers
        → settled_at c time n numbers ≡ cond (all || reconsidered c before after n) (change_or_exceeded c time after (kept c after) n) (change_at after n)
    unfolding settled_at
    settled time before after pending all shaped e r =
        let q : pending_of time numbers ≡ change_at after n = ap (pending_after time) r.pends ∙ sym e in
        rw q (by (is_reached c n numbers) refl ∙ ap (λ (b : Bool). cond b (change_or_exceeded c time after (kept c after) n) (change_at after n)) (reached_right r))
      where
        by : (b : Bool) → is_reached c n numbers ≡ b
            → cond b (change_or_exceeded c time (leaf_state c (change_at after n) numbers) (leaf_channels c numbers) n) (change_at after n)
            ≡ cond b (change_or_exceeded c time after (kept c after) n) (change_at after n)
        by true h =
            let s = reached_seed c n numbers h in
            let at : in_group c n s.0 ≡ true = in_group_lem r (on r) (pieces_only c (ons r) (list_legal r (on r)) n s.0 node s.1 s.3) in
            group_change after shaped numbers (change_at after n) r.values (r.keeps s.0 (record { least = s.1.least; most = s.1.most }) at s.2) time inner own refl
        by false h = refl
