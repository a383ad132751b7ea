-- Rule 2: reach is exactly a path over conducting channels; the channels that conduct after T are enough, and of these the kept ones; beyond a
-- group nothing reaches.
use mathlib.Core.Path.{◌≡◌, refl, sym, ◌∙◌, ap, subst}
use mathlib.Core.Logic.{◌⊎◌, inl, inr, ⊎_elim, ◌↔◌}
use mathlib.Core.Bool.{Bool, true, false, ◌&&◌, ◌||◌}
use mathlib.Core.List.{List, [], ◌∷◌, Memᴰ}
use Prim.Native.Nat.{ℕ, suc, ◌+◌, ◌-◌, ◌<◌}
use lib.ListN.{length}
use lib.Dec.{eqb}
use borrow.Author.Tests.{eqb-true, not-false}
use Rattle.lists.proofs.Cases.{bool_cases, and_left, and_right, and_both, or_cases, or_left, or_right, true_false, bool_ext}
use Rattle.format.specs.declared.Transistor.{Transistor}
use Rattle.format.specs.Circuit.{Circuit}
use Rattle.format.proofs.Legal.{LegalTransistor, LegalCell}
use Rattle.rules.specs.State.{State, value_at, is_inner, node_numbers}
use Rattle.rules.specs.Arrive.{changed}
use Rattle.rules.specs.Label.{Labels, joined, join, between_inner, link_from, pieces, in_piece, of_piece, only}
use Rattle.rules.specs.Group.{groups, in_group, of_group, is_seed}
use Rattle.rules.specs.Kept.{Channel, conducts, keeps, after_kept, kept_from, kept}
use Rattle.rules.specs.Matrix.{carriers}
use Rattle.rules.specs.Reach.{conducts_around, reach, input_changed, disturbed, touched}
use Rattle.rules.proofs.Forest.{kept_skips, kept_joins, kept_ends}
use Rattle.rules.proofs.Label.{IsNode, AllLegal, all_legal, inner_node_lem, Joined, joined_refl, joined_trans, join_joined, first_joined, Linked, linked_same, linked_over, linked_more, pieces_join, pieces_exactly, groups_join, some_found, some_passes, only_of, only_in}

-- m is a channel end of t
abbrev pub AtEnd : Transistor → ℕ → Type 0
AtEnd t m = (t.first ≡ m) ⊎ (t.second ≡ m)

module _ (c : Circuit) (ls : Labels) (n : ℕ) (t : Transistor) where
  -- a transistor of n's piece has an inner end that is joined to n
  pub piece_end : of_piece c ls n t ≡ true → (m : ℕ) × AtEnd t m × (is_inner c m ≡ true) × Joined ls n m
  piece_end e =
      ⊎_elim
      (λ (p : in_piece c ls n t.first ≡ true). (t.first, inl refl, and_left (is_inner c t.first) _ p, and_right (is_inner c t.first) _ p))
      (λ (p : in_piece c ls n t.second ≡ true). (t.second, inr refl, and_left (is_inner c t.second) _ p, and_right (is_inner c t.second) _ p))
      (or_cases (in_piece c ls n t.first) (in_piece c ls n t.second) e)

  -- and one that has is of it
  pub end_piece : (m : ℕ) → AtEnd t m → is_inner c m ≡ true → Joined ls n m → of_piece c ls n t ≡ true
  end_piece m at i j =
      let own : in_piece c ls n m ≡ true = and_both (is_inner c m) (joined ls n m) i j in
      ⊎_elim
      (λ (q : t.first ≡ m). or_left (in_piece c ls n t.first) _ (subst (λ (x : ℕ). in_piece c ls n x ≡ true) (sym q) own))
      (λ (q : t.second ≡ m). or_right (in_piece c ls n t.first) _ (subst (λ (x : ℕ). in_piece c ls n x ≡ true) (sym q) own))
      at

-- an inner node at an end of a disturbed transistor
pub record Seed (c : Circuit) (before after : State) (m : ℕ) : Type 0 where
  pub transistor : Transistor
  pub listed : Memᴰ transistor c.transistors
  pub at : AtEnd transistor m
  pub inner : is_inner c m ≡ true
  pub moved : disturbed c before after transistor ≡ true

module _ (c : Circuit) (ls : Labels) (before after : State) (n : ℕ) where
  -- a piece is touched exactly if it holds such a node
  pub touched_seed : touched c ls before after n ≡ true → (m : ℕ) × Seed c before after m × Joined ls n m
  unfolding touched
  touched_seed e =
      let f = some_found (λ (t : Transistor). of_piece c ls n t && disturbed c before after t) c.transistors e in
      let r = piece_end c ls n f.0 (and_left (of_piece c ls n f.0) _ f.2) in
      (r.0, record { transistor = f.0; listed = f.1; at = r.1; inner = r.2; moved = and_right (of_piece c ls n f.0) _ f.2 }, r.3)

  pub seed_touched : (m : ℕ) → Seed c before after m → Joined ls n m → touched c ls before after n ≡ true
  unfolding touched
  seed_touched m s j =
      some_passes (λ (t : Transistor). of_piece c ls n t && disturbed c before after t) c.transistors s.transistor s.listed
      (and_both (of_piece c ls n s.transistor) _ (end_piece c ls n s.transistor m s.at s.inner j) s.moved)

-- the test tells of seeds
module _ (c : Circuit) (before after : State) (n : ℕ) (h : IsNode (length c.nodes) n) where
  pub test_seed : ((m : ℕ) → Seed c before after m → IsNode (length c.nodes) m) → is_seed c before after n ≡ true → Seed c before after n
  test_seed nodes e =
      let s = touched_seed c (node_numbers c) before after n e in
      subst (Seed c before after) (sym (first_joined c n s.0 h (nodes s.0 s.1) s.2)) s.1

  pub seed_test : Seed c before after n → is_seed c before after n ≡ true
  seed_test s = seed_touched c (node_numbers c) before after n n s (joined_refl (node_numbers c) n)

-- where a transistor conducts before T and not after it, its gate changed
gate_changed : (before after : State) (t : Transistor) → conducts before t ≡ true → conducts after t ≡ false → changed before after t.gate ≡ true
gate_changed before after t e f =
    ⊎_elim
    (λ (q : changed before after t.gate ≡ true). q)
    (λ (q : changed before after t.gate ≡ false).
    let same : value_at before t.gate ≡ value_at after t.gate = eqb-true (value_at before t.gate) (value_at after t.gate) (not-false _ q) in
    true_false (conducts before t) e (ap (λ (v : ℕ). eqb v (1 - t.polarity)) same ∙ f))
    (bool_cases (changed before after t.gate))

module _ (c : Circuit) (l : LegalCell c) where
  -- the transistors that pass a test
  abbrev those : (Transistor → Bool) → List Transistor
  those test = only test c.transistors

  those_legal : (test : Transistor → Bool) → AllLegal (length c.nodes) (those test)
  those_legal test t m = all_legal l t (only_of test c.transistors t m).0

  -- an inner end of a transistor is the number of a node record
  pub end_node : (t : Transistor) → Memᴰ t c.transistors → (m : ℕ) → AtEnd t m → is_inner c m ≡ true → IsNode (length c.nodes) m
  end_node t m x at i =
      let h : LegalTransistor (length c.nodes) t = all_legal l t m in
      inner_node_lem c (length c.nodes) x i
      (⊎_elim
      (λ (q : t.first ≡ x). subst (λ (y : ℕ). y < 2 + length c.nodes) q h.first_is)
      (λ (q : t.second ≡ x). subst (λ (y : ℕ). y < 2 + length c.nodes) q h.second_is)
      at)

  -- the pieces of the transistors that pass a test: joined exactly where these lead
  pub those_exactly : (test : Transistor → Bool) (x y : ℕ) → IsNode (length c.nodes) x → IsNode (length c.nodes) y
      → Joined (pieces c (only test c.transistors)) x y ↔ Linked c (only test c.transistors) x y
  those_exactly test x y hx hy = pieces_exactly c (those test) (those_legal test) x y hx hy

  -- so reach is exactly a path over channels that conduct just before or just after, through inner nodes
  pub reach_exactly : (before after : State) (x y : ℕ) → IsNode (length c.nodes) x → IsNode (length c.nodes) y
      → Joined (reach c before after) x y ↔ Linked c (only (conducts_around before after) c.transistors) x y
  unfolding reach
  reach_exactly before after x y hx hy = those_exactly (conducts_around before after) x y hx hy

  module _ (before after : State) where
    abbrev around : List Transistor
    around = those (conducts_around before after)

    abbrev then : List Transistor
    then = those (conducts after)

    then_around : (t : Transistor) → Memᴰ t then → Memᴰ t around
    then_around t m =
        let r = only_of (conducts after) c.transistors t m in
        only_in (conducts_around before after) c.transistors t r.0 (or_right (conducts before t) (conducts after t) r.1)

    -- a node that reaches a seed over channels that conduct before or after reaches one over those that conduct after: a channel that shuts at T has
    -- a changed gate, so that its near end is a seed
    nearer : {x m : ℕ} → Linked c around x m → Seed c before after m → (y : ℕ) × Seed c before after y × Linked c then x y
    nearer {x} {m} (linked_same e) s = (m, s, linked_same e)
    nearer (linked_over {x = x} {y = y} b r) s =
        let t : Transistor = b.transistor in
        let mem = only_of (conducts_around before after) c.transistors t b.listed in
        let on : conducts after t ≡ true → (z : ℕ) × Seed c before after z × Linked c then x z =
        λ q.
        let rest = nearer r s in
        (rest.0, rest.1, linked_over (record { transistor = t; listed = only_in (conducts after) c.transistors t mem.0 q; inner = b.inner; ends = b.ends }) rest.2) in
        let off : conducts after t ≡ false → (z : ℕ) × Seed c before after z × Linked c then x z =
        λ q.
        let was : conducts before t ≡ true = ⊎_elim (λ (p : conducts before t ≡ true). p) (λ (p : conducts after t ≡ true). true_false (conducts after t) p q) (or_cases (conducts before t) (conducts after t) mem.1) in
        (x, own t mem.0 b.inner b.ends (gate_changed before after t was q), linked_same refl) in
        ⊎_elim on off (bool_cases (conducts after t))
      where
        own : (t : Transistor) → Memᴰ t c.transistors → between_inner c t ≡ true → ((t.first ≡ x) × (t.second ≡ y)) ⊎ ((t.first ≡ y) × (t.second ≡ x)) → changed before after t.gate ≡ true → Seed c before after x
        own t at i ends g =
            let first : is_inner c t.first ≡ true = and_left (is_inner c t.first) (is_inner c t.second) i in
            let second : is_inner c t.second ≡ true = and_right (is_inner c t.first) (is_inner c t.second) i in
            let shaken : disturbed c before after t ≡ true = or_left (changed before after t.gate || input_changed c before after t.first) _ (or_left (changed before after t.gate) _ g) in
            ⊎_elim
            (λ (p : (t.first ≡ x) × (t.second ≡ y)). record { transistor = t; listed = at; at = inl p.0; inner = subst (λ (z : ℕ). is_inner c z ≡ true) p.0 first; moved = shaken })
            (λ (p : (t.first ≡ y) × (t.second ≡ x)). record { transistor = t; listed = at; at = inr p.1; inner = subst (λ (z : ℕ). is_inner c z ≡ true) p.1 second; moved = shaken })
            ends

    pub seed_node : {m : ℕ} → Seed c before after m → IsNode (length c.nodes) m
    seed_node {m} s = end_node s.transistor s.listed m s.at s.inner

    -- so just before or just after comes to just after
    pub touched_after : (n : ℕ) → IsNode (length c.nodes) n → touched c (reach c before after) before after n ≡ touched c (pieces c (only (conducts after) c.transistors)) before after n
    touched_after n h = bool_ext _ _ there back
      where
        there : touched c (reach c before after) before after n ≡ true → touched c (pieces c then) before after n ≡ true
        there e =
            let s = touched_seed c (reach c before after) before after n e in
            let r = nearer ((reach_exactly before after n s.0 h (seed_node s.1)).0 s.2) s.1 in
            seed_touched c (pieces c then) before after n r.0 r.1 (pieces_join c then (those_legal (conducts after)) n r.0 r.2)

        back : touched c (pieces c then) before after n ≡ true → touched c (reach c before after) before after n ≡ true
        back e =
            let s = touched_seed c (pieces c then) before after n e in
            seed_touched c (reach c before after) before after n s.0 s.1
            ((reach_exactly before after n s.0 h (seed_node s.1)).1 (linked_more then_around ((those_exactly (conducts after) n s.0 h (seed_node s.1)).0 s.2)))

    -- beyond its group a node reaches nothing
    pub reach_group : (x y : ℕ) → IsNode (length c.nodes) x → IsNode (length c.nodes) y → Joined (reach c before after) x y → Joined (groups c) x y
    unfolding groups
    reach_group x y hx hy e =
        pieces_join c c.transistors (all_legal l) x y
        (linked_more (λ t m. (only_of (conducts_around before after) c.transistors t m).0) ((reach_exactly before after x y hx hy).0 e))

    -- so it is reconsidered only where its group is touched
    pub reached_group : (n : ℕ) → IsNode (length c.nodes) n → touched c (reach c before after) before after n ≡ true → touched c (groups c) before after n ≡ true
    reached_group n h e =
        let s = touched_seed c (reach c before after) before after n e in
        seed_touched c (groups c) before after n s.0 s.1 (reach_group n s.0 h (seed_node s.1) s.2)

-- one more channel at the head of a list
link_inner : (c : Circuit) (ls : Labels) (t : Transistor) (ts : List Transistor) → between_inner c t ≡ true → link_from c ls (t ∷ ts) ≡ link_from c (join ls t.first t.second) ts
unfolding link_from
link_inner c ls t ts b = rw b

link_outer : (c : Circuit) (ls : Labels) (t : Transistor) (ts : List Transistor) → between_inner c t ≡ false → link_from c ls (t ∷ ts) ≡ link_from c ls ts
unfolding link_from
link_outer c ls t ts b = rw b

module _ (c : Circuit) (s : State) where
  only_on : (t : Transistor) (ts : List Transistor) → conducts s t ≡ true → only (conducts s) (t ∷ ts) ≡ t ∷ only (conducts s) ts
  unfolding only
  only_on t ts e = rw e

  only_off : (t : Transistor) (ts : List Transistor) → conducts s t ≡ false → only (conducts s) (t ∷ ts) ≡ only (conducts s) ts
  unfolding only
  only_off t ts e = rw e

  -- a transistor that is not kept does not conduct, or joins what is joined
  broken_links : (t : Transistor) (ts : List Transistor) (ls : Labels) → keeps c s ls t ≡ false → link_from c ls (only (conducts s) (t ∷ ts)) ≡ link_from c ls (only (conducts s) ts)
  broken_links t ts ls e =
      ⊎_elim
      (λ (q : conducts s t ≡ true).
      let both : between_inner c t && joined ls t.first t.second ≡ true = not-false _ (rw q at e) in
      ap (link_from c ls) (only_on t ts q)
      ∙ link_inner c ls t (only (conducts s) ts) (and_left (between_inner c t) _ both)
      ∙ ap (λ (ms : Labels). link_from c ms (only (conducts s) ts)) (join_joined ls t.first t.second (and_right (between_inner c t) _ both)))
      (λ (q : conducts s t ≡ false). ap (link_from c ls) (only_off t ts q))
      (bool_cases (conducts s t))

  -- one that is kept joins its ends, if both are inner
  pub one_links : (t : Transistor) (ts : List Transistor) (ls : Labels) → link_from c (after_kept c s ls t) (only (conducts s) ts) ≡ link_from c ls (only (conducts s) (t ∷ ts))
  one_links t ts ls =
      ⊎_elim
      (λ (e : keeps c s ls t ≡ true).
      let on : only (conducts s) (t ∷ ts) ≡ t ∷ only (conducts s) ts = only_on t ts (and_left (conducts s t) _ e) in
      ⊎_elim
      (λ (b : between_inner c t ≡ true). rw (e, b) (sym (ap (link_from c ls) on ∙ link_inner c ls t _ b)))
      (λ (b : between_inner c t ≡ false). rw (e, b) (sym (ap (link_from c ls) on ∙ link_outer c ls t _ b)))
      (bool_cases (between_inner c t)))
      (λ (e : keeps c s ls t ≡ false). rw e (sym (broken_links t ts ls e)))
      (bool_cases (keeps c s ls t))

  kept_first : (t : Transistor) (ts : List Transistor) (ls : Labels) (i : ℕ)
      → link_from c ls (carriers (kept_from c s ls i (t ∷ ts))) ≡ link_from c (after_kept c s ls t) (carriers (kept_from c s (after_kept c s ls t) (suc i) ts))
  kept_first t ts ls i =
      ⊎_elim
      (λ (e : keeps c s ls t ≡ true).
      ⊎_elim
      (λ (b : between_inner c t ≡ true). rw (e, b) (ap (λ (ks : List Channel). link_from c ls (carriers ks)) (kept_joins c s ls i t ts e b) ∙ link_inner c ls t _ b))
      (λ (b : between_inner c t ≡ false). rw (e, b) (ap (λ (ks : List Channel). link_from c ls (carriers ks)) (kept_ends c s ls i t ts e b) ∙ link_outer c ls t _ b))
      (bool_cases (between_inner c t)))
      (λ (e : keeps c s ls t ≡ false). rw e (ap (λ (ks : List Channel). link_from c ls (carriers ks)) (kept_skips c s ls i t ts e)))
      (bool_cases (keeps c s ls t))

  kept_none : (ls : Labels) (i : ℕ) → carriers (kept_from c s ls i []) ≡ only (conducts s) []
  unfolding kept_from only
  kept_none ls i = refl

  -- so the kept ones part the nodes as all that conduct do
  kept_links : (ts : List Transistor) (ls : Labels) (i : ℕ) → link_from c ls (carriers (kept_from c s ls i ts)) ≡ link_from c ls (only (conducts s) ts)
  kept_links [] ls i = ap (link_from c ls) (kept_none ls i)
  kept_links (t ∷ ts) ls i = kept_first t ts ls i ∙ kept_links ts (after_kept c s ls t) (suc i) ∙ one_links t ts ls

  pub kept_pieces : pieces c (carriers (kept c s)) ≡ pieces c (only (conducts s) c.transistors)
  unfolding kept
  kept_pieces = kept_links c.transistors (node_numbers c) 0

-- A node is reconsidered exactly if its piece after T, by the kept transistors, holds a seed.
pub reconsidered_kept : (c : Circuit) (l : LegalCell c) (before after : State) (n : ℕ) → IsNode (length c.nodes) n
    → touched c (reach c before after) before after n ≡ touched c (pieces c (carriers (kept c after))) before after n
reconsidered_kept c l before after n h = touched_after c l before after n h ∙ ap (λ (ls : Labels). touched c ls before after n) (sym (kept_pieces c after))

module _ (c : Circuit) (l : LegalCell c) (n : ℕ) where
  -- a path over channels of one list is one over another that has those of the group, and stays in the group
  pub group_path : (ts us : List Transistor) → ((t : Transistor) → Memᴰ t ts → Memᴰ t c.transistors) → ((t : Transistor) → Memᴰ t ts → of_group c n t ≡ true → Memᴰ t us)
      → {x y : ℕ} → in_group c n x ≡ true → Linked c ts x y → (in_group c n y ≡ true) × Linked c us x y
  group_path ts us of more e (linked_same q) = (subst (λ (z : ℕ). in_group c n z ≡ true) q e, linked_same q)
  group_path ts us of more e (linked_over {x = x} {y = y} b r) =
      let t : Transistor = b.transistor in
      let step : Linked c c.transistors x y = linked_over (record { transistor = t; listed = of t b.listed; inner = b.inner; ends = b.ends }) (linked_same refl) in
      let far : in_group c n y ≡ true =
      and_both (is_inner c y) (joined (groups c) n y)
      (⊎_elim
      (λ (p : (t.first ≡ x) × (t.second ≡ y)). subst (λ (z : ℕ). is_inner c z ≡ true) p.1 (and_right (is_inner c t.first) (is_inner c t.second) b.inner))
      (λ (p : (t.first ≡ y) × (t.second ≡ x)). subst (λ (z : ℕ). is_inner c z ≡ true) p.0 (and_left (is_inner c t.first) (is_inner c t.second) b.inner))
      b.ends)
      (joined_trans (groups c) n x y (and_right (is_inner c x) (joined (groups c) n x) e) (groups_join c (all_legal l) x y step)) in
      let here : of_group c n t ≡ true =
      ⊎_elim
      (λ (p : (t.first ≡ x) × (t.second ≡ y)). or_left (in_group c n t.first) _ (subst (λ (z : ℕ). in_group c n z ≡ true) (sym p.0) e))
      (λ (p : (t.first ≡ y) × (t.second ≡ x)). or_right (in_group c n t.first) _ (subst (λ (z : ℕ). in_group c n z ≡ true) (sym p.1) e))
      b.ends in
      let rest = group_path ts us of more far r in
      (rest.0, linked_over (record { transistor = t; listed = more t b.listed here; inner = b.inner; ends = b.ends }) rest.1)
