-- Entries of nodes that no marked node is worked out from may be any: a marked node has the same next change.
use mathlib.Core.Path.{◌≡◌, refl, sym, ◌∙◌, ap, subst}
use mathlib.Core.Logic.{inl, inr, ⊎_elim}
use mathlib.Core.List.{List}
use mathlib.Core.Bool.{Bool, true, false, not, ◌||◌, cond}
use Prim.Native.Nat.{ℕ, ◌+◌, ◌≤◌, ◌<◌}
use native.Mathlib.Omega.{arith}
use lib.ListN.{length, get_or, take, drop, length-take, get_or-eq_default}
use lib.Seq.{get_or-drop}
use lib.Dec.{eqb}
use borrow.Author.Tests.{eqb-true, ne_eqb, not-false, le-ltb}
use Rattle.lists.proofs.Cases.{lt_or_ge, or_cases, and_left}
use Rattle.format.specs.declared.Transistor.{Transistor}
use Rattle.format.specs.Circuit.{Circuit, no_transistor}
use Rattle.diagram.specs.Table.{Table, number_at}
use Rattle.rules.specs.State.{State, value_at, is_inner}
use Rattle.rules.specs.Label.{joined}
use Rattle.rules.specs.Group.{in_group, of_group, groups}
use Rattle.rules.proofs.State.{Numbered, rail_value}
use Rattle.rules.proofs.Label.{at_each, inner_node_lem}
use Rattle.net.specs.Net.{at, net_transistor, net_circuit}
use Rattle.net.specs.Roots.{roots_length, change_place}
use Rattle.net.proofs.Laying.{nodes_length, transistors_length, transistor_at_lem}
use Rattle.plain.specs.Ready.{Net, Noded}
use Rattle.plain.specs.Leaf.{leaf_state}
use Rattle.plain.specs.Settle.{pending_after}
use Rattle.plain.proofs.Values.{wired}
use Rattle.prepare.proofs.Reading.{laid_legal}
use Rattle.descent.specs.Settle.{leaf_at}
use Rattle.descent.proofs.Channels.{leaf_value}
use Rattle.stir.specs.Marks.{NodeMarks, AtTransistor, Needed, Masked}
use Rattle.attempt.specs.Change.{pending_in, before_state, after_state, change_by}
use Rattle.attempt.proofs.Prepared.{leaf_at_lem}
use Rattle.marked.specs.Changes.{entries_with}
use Rattle.marked.proofs.Placed.{entries_long, entries_before, entries_after, entries_change}
use Rattle.marked.proofs.Group.{SameRead, from_same}

-- no end is marked
unmarked : (a b : ℕ) → (not (eqb a 0) || not (eqb b 0)) ≡ false → (a ≡ 0) × (b ≡ 0)
unmarked a b e = (eqb-true a 0 (not-false (eqb a 0) (left (not (eqb a 0)) (not (eqb b 0)) e)), eqb-true b 0 (not-false (eqb b 0) (right (not (eqb a 0)) (not (eqb b 0)) e)))
  where
    left : (x y : Bool) → (x || y) ≡ false → x ≡ false
    left true y e = e
    left false y e = refl

    right : (x y : Bool) → (x || y) ≡ false → y ≡ false
    right true true e = e
    right true false e = refl
    right false y e = e

-- past the nodes a leaf has no value
leaf_past : (c : Circuit) (q : ℕ) (numbers : List ℕ) (m : ℕ) → 2 + length c.nodes ≤ m → value_at (leaf_state c q numbers) m ≡ 0
leaf_past c q numbers m h =
    rw (le-ltb m 2 (omega arith)) (get_or-eq_default (take (length c.nodes) (drop 2 numbers)) 0 (simp length-take (omega arith)))

-- leaves with one number have one value there
leaf_same : (c : Circuit) (q r : ℕ) (one other : List ℕ) (m : ℕ) → (Numbered c m → get_or one m 0 ≡ get_or other m 0) → value_at (leaf_state c q one) m ≡ value_at (leaf_state c r other) m
leaf_same c q r one other m h =
    ⊎_elim
    (λ (rail : m < 2). rail_value (leaf_state c q one) m rail ∙ sym (rail_value (leaf_state c r other) m rail))
    (λ (l : 2 ≤ m).
    ⊎_elim
    (λ (g : m < 2 + length c.nodes).
    let i : Numbered c m = record { least = l; most = g } in
    leaf_value c q one m i ∙ h i ∙ sym (leaf_value c r other m i))
    (λ (g : 2 + length c.nodes ≤ m). leaf_past c q one m g ∙ sym (leaf_past c r other m g))
    (lt_or_ge m (2 + length c.nodes)))
    (lt_or_ge m 2)

module _ {net : List ℕ} (cell : Net net) {before after : List ℕ} {all : Bool} {marks need : List ℕ} (m : NodeMarks net before after all marks) (d : Needed net marks need)
    (n : ℕ) (node : Noded net n) (inner : is_inner (net_circuit net) n ≡ true) (own : get_or marks n 0 ≡ 0 → ⊥) where
  abbrev c : Circuit
  c = net_circuit net

  size : length c.nodes ≡ at net 0
  size = nodes_length net

  -- a node of the group is marked, and needed
  member_marked : (x : ℕ) → x < 2 + length c.nodes → in_group c n x ≡ true → get_or marks x 0 ≡ 0 → ⊥
  member_marked x h e z =
      let there = inner_node_lem c (length c.nodes) x (and_left (is_inner c x) (joined (groups c) n x) e) h in
      own (sym (m.together n x node (record { least = there.least; most = omega (arith, size) }) inner e) ∙ z)

  -- and so are gate and ends of its transistors
  wired_needed : (i x : ℕ) → i < at net 1 → of_group c n (net_transistor net i) ≡ true → (net_transistor net i).first < 2 + length c.nodes → (net_transistor net i).second < 2 + length c.nodes
      → AtTransistor (net_transistor net i) x → get_or need x 0 ≡ 0 → ⊥
  wired_needed i x h e f s at z =
      let u : Transistor = net_transistor net i in
      let none = unmarked (get_or marks u.first 0) (get_or marks u.second 0) (d.wired i x h at z) in
      ⊎_elim
      (λ (g : in_group c n u.first ≡ true). member_marked u.first f g none.0)
      (λ (g : in_group c n u.second ≡ true). member_marked u.second s g none.1)
      (or_cases (in_group c n u.first) (in_group c n u.second) e)

  module _ (s z : State) (same : (x : ℕ) → (x < 2 + length c.nodes → get_or need x 0 ≡ 0 → ⊥) → value_at s x ≡ value_at z x) where
    at_transistor : (place : Transistor → ℕ) → ((u : Transistor) → AtTransistor u (place u))
        → (i : ℕ) → i < length c.transistors → of_group c n (get_or c.transistors i no_transistor) ≡ true
        → value_at s (place (get_or c.transistors i no_transistor)) ≡ value_at z (place (get_or c.transistors i no_transistor))
    at_transistor place is i h e =
        let w = wired net cell i h in
        let l : i < at net 1 = omega (arith, transistors_length net) in
        let u : get_or c.transistors i no_transistor ≡ net_transistor net i = transistor_at_lem net i l in
        same (place (get_or c.transistors i no_transistor))
        (λ _. wired_needed i (place (get_or c.transistors i no_transistor)) l
        (subst (λ (t : Transistor). of_group c n t ≡ true) u e)
        (subst (λ (t : Transistor). t.first < 2 + length c.nodes) u w.first)
        (subst (λ (t : Transistor). t.second < 2 + length c.nodes) u w.second)
        (subst (λ (t : Transistor). AtTransistor t (place (get_or c.transistors i no_transistor))) u (is (get_or c.transistors i no_transistor))))

    -- states with the same values at what is needed
    read_same : SameRead (net_circuit net) n s z
    read_same = record {
      own = λ x e. same x (λ h q. member_marked x h e (d.own x q));
      gate = at_each (λ (t : Transistor). of_group c n t ≡ true → value_at s t.gate ≡ value_at z t.gate) no_transistor c.transistors (at_transistor (λ (t : Transistor). t.gate) (λ u. inl refl));
      first = at_each (λ (t : Transistor). of_group c n t ≡ true → value_at s t.first ≡ value_at z t.first) no_transistor c.transistors (at_transistor (λ (t : Transistor). t.first) (λ u. inr (inl refl)));
      second = at_each (λ (t : Transistor). of_group c n t ≡ true → value_at s t.second ≡ value_at z t.second) no_transistor c.transistors (at_transistor (λ (t : Transistor). t.second) (λ u. inr (inr refl)));
    }

  module _ {was is : List ℕ} (w : Masked need before was) (v : Masked need after is) (before_long : length before ≡ 26) (after_long : length after ≡ 26) (k : ℕ) (t : Table) (x time p : ℕ) where
    abbrev one : List ℕ
    one = leaf_at k t (entries_with before after x) p

    abbrev other : List ℕ
    other = leaf_at k t (entries_with was is x) p

    few : at net 0 ≤ 24
    few = cell.within.nodes

    one_at : (j : ℕ) → j < roots_length → get_or one j 0 ≡ number_at k t (get_or (entries_with before after x) j 0) p
    one_at j h = leaf_at_lem k t (entries_with before after x) p j (omega (arith, entries_long before after x before_long after_long))

    other_at : (j : ℕ) → j < roots_length → get_or other j 0 ≡ number_at k t (get_or (entries_with was is x) j 0) p
    other_at j h = leaf_at_lem k t (entries_with was is x) p j (omega (arith, entries_long was is x w.long v.long))

    -- the entries at one place
    place_same : (j a b : ℕ) → j < roots_length → get_or (entries_with before after x) j 0 ≡ a → get_or (entries_with was is x) j 0 ≡ b → a ≡ b → get_or one j 0 ≡ get_or other j 0
    place_same j a b h e f same = one_at j h ∙ ap (λ (y : ℕ). number_at k t y p) (e ∙ same ∙ sym f) ∙ sym (other_at j h)

    -- a mask leaves the entry of what is needed
    kept_entry : {entries masked : List ℕ} → Masked need entries masked → (j : ℕ) → j < 26 → (get_or need j 0 ≡ 0 → ⊥) → get_or entries j 0 ≡ get_or masked j 0
    kept_entry {entries} r j h ne = sym (r.is j h ∙ ap (λ (b : Bool). cond b 0 (get_or entries j 0)) (ne_eqb (get_or need j 0) 0 ne))

    before_same : SameRead (net_circuit net) n (before_state (net_circuit net) one) (before_state (net_circuit net) other)
    before_same =
        read_same (before_state c one) (before_state c other)
        (λ j ne. leaf_same c 0 0 one other j
        (λ i.
        let h : j < 26 = omega (arith, i.most, size, few) in
        place_same j _ _ (omega arith) (entries_before before after x before_long after_long j h) (entries_before was is x w.long v.long j h) (kept_entry w j h (ne i.most))))

    after_same : SameRead (net_circuit net) n (after_state (net_circuit net) time one) (after_state (net_circuit net) time other)
    after_same =
        read_same (after_state c time one) (after_state c time other)
        (λ j ne. leaf_same c (pending_in time one) (pending_in time other) (drop 26 one) (drop 26 other) j
        (λ i.
        let h : j < 26 = omega (arith, i.most, size, few) in
        get_or-drop 26 one j 0
        ∙ place_same (26 + j) _ _ (omega arith) (entries_after before after x before_long after_long j h) (entries_after was is x w.long v.long j h) (kept_entry v j h (ne i.most))
        ∙ sym (get_or-drop 26 other j 0)))

    pending_same : pending_in time one ≡ pending_in time other
    pending_same = ap (pending_after time) (place_same change_place x x (omega arith) (entries_change before after x before_long after_long) (entries_change was is x w.long v.long) refl)

    -- so the masked entries serve a marked node
    pub needed_change : change_by (net_circuit net) time all n k t (entries_with was is x) p ≡ change_by (net_circuit net) time all n k t (entries_with before after x) p
    needed_change = sym (from_same c (laid_legal net cell) n time all inner (record { least = node.least; most = omega (arith, node.most, size) }) one other before_same after_same pending_same)
