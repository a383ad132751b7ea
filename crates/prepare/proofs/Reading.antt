-- What a laid-out cell says of its transistors, and the labels of its groups.
use mathlib.Core.Path.{◌≡◌, refl, sym, ◌∙◌, subst}
use mathlib.Core.Logic.{inl, ⊎_elim}
use mathlib.Core.List.Memᴰ
use mathlib.Core.List.{List, [], ◌∷◌}
use mathlib.Core.Bool.{Bool, true, false, ◌&&◌, ◌||◌, cond}
use Prim.Native.Nat.{ℕ, ◌+◌, ◌≤◌, ◌<◌}
use native.Mathlib.Omega.{arith}
use lib.ListN.{length}
use lib.Dec.{eqb}
use borrow.Author.Tests.{lt-leb, eqb-true}
use Rattle.lists.proofs.Cases.{eq_or_ne, and_both, or_cases}
use Rattle.format.specs.declared.Transistor.{Transistor}
use Rattle.format.specs.Circuit.{Circuit, no_transistor}
use Rattle.format.specs.Legal.{is_input}
use Rattle.format.proofs.Legal.{LegalTransistor, LegalCell, legal_cell}
use Rattle.rules.specs.State.{node_numbers, is_inner}
use Rattle.rules.specs.Label.{Labels, label_at, join, between_inner, link_from}
use Rattle.rules.specs.Group.{groups, of_group}
use Rattle.rules.proofs.State.{up_length}
use Rattle.rules.proofs.Label.{false_true, IsNode, AllLegal, all_legal, joined_alike, inner_node_lem, ends_inner, relabel_same, relabel_other, length_join, label_join, first_label, groups_join, linked_same, linked_over}
use Rattle.rules.specs.Matrix.{transistor_at}
use Rattle.rules.proofs.Matrix.{at_member}
use Rattle.net.specs.Net.{at, net_transistor, net_circuit}
use Rattle.net.specs.Laid.{Laid}
use Rattle.net.proofs.Laying.{nodes_length, transistors_length, transistor_at_lem}
use Rattle.prepare.specs.Steps.{group_of}

-- labels that are nodes themselves
record Noded (nodes : ℕ) (ls : Labels) : Type 0 where
  size : length ls ≡ nodes
  node : (x : ℕ) → IsNode nodes x → IsNode nodes (label_at ls x)

noded_join : {nodes : ℕ} {ls : Labels} (a b : ℕ) → IsNode nodes a → Noded nodes ls → Noded nodes (join ls a b)
noded_join {nodes} {ls} a b ha g = record { size = length_join ls a b ∙ g.size; node = each }
  where
    each : (x : ℕ) → IsNode nodes x → IsNode nodes (label_at (join ls a b) x)
    each x hx =
        let size : length ls ≡ nodes = g.size in
        let here : IsNode (length ls) x = omega arith in
        ⊎_elim
        (λ (e : label_at ls x ≡ label_at ls b). subst (IsNode nodes) (sym (label_join ls a b x here ∙ relabel_same (label_at ls a) (label_at ls b) (label_at ls x) e)) (g.node a ha))
        (λ (ne : label_at ls x ≡ label_at ls b → ⊥). subst (IsNode nodes) (sym (label_join ls a b x here ∙ relabel_other (label_at ls a) (label_at ls b) (label_at ls x) ne)) (g.node x hx))
        (eq_or_ne (label_at ls x) (label_at ls b))

noded_link : (c : Circuit) (nodes : ℕ) (ts : List Transistor) (ls : Labels) → AllLegal nodes ts → Noded nodes ls → Noded nodes (link_from c ls ts)
unfolding link_from
noded_link c nodes [] ls h g = g
noded_link c nodes (t ∷ ts) ls h g = noded_link c nodes ts (cond (between_inner c t) (join ls t.first t.second) ls) (λ u m. h u (Memᴰ.tail m)) (by (between_inner c t) refl)
  where
    by : (b : Bool) → between_inner c t ≡ b → Noded nodes (cond b (join ls t.first t.second) ls)
    by true e = noded_join t.first t.second (ends_inner c nodes t (h t (Memᴰ.head refl)) e).0 g
    by false e = g

-- a group's label is the number of a node record
pub label_node : (c : Circuit) → LegalCell c → (n : ℕ) → IsNode (length c.nodes) n → IsNode (length c.nodes) (label_at (groups c) n)
unfolding groups
label_node c l n h =
    (noded_link c (length c.nodes) c.transistors (node_numbers c) (all_legal l)
    (record { size = up_length (length c.nodes) 2; node = λ x hx. subst (IsNode (length c.nodes)) (sym (first_label (length c.nodes) x hx)) hx })
    ).node n h

-- two ends, inner or not, and their labels: one of them is the group's
one_of : (a b : Bool) (la lb : ℕ) → (a ≡ true → b ≡ true → la ≡ lb) → (g : ℕ) → (a && eqb g la) || (b && eqb g lb) ≡ true → g ≡ cond a la (cond b lb 0)
one_of true true la lb same g e = ⊎_elim (λ (q : eqb g la ≡ true). eqb-true g la q) (λ (q : eqb g lb ≡ true). eqb-true g lb q ∙ sym (same refl refl)) (or_cases (eqb g la) (eqb g lb) e)
one_of true false la lb same g e = ⊎_elim (λ (q : eqb g la ≡ true). eqb-true g la q) (λ (q : false ≡ true). false_true q) (or_cases (eqb g la) false e)
one_of false true la lb same g e = eqb-true g lb e
one_of false false la lb same g e = false_true e

-- the group of a transistor, by its label
module _ (c : Circuit) (l : LegalCell c) (i : ℕ) (h : i < length c.transistors) where
  abbrev t : Transistor
  t = transistor_at c i

  same_label_lem : is_inner c t.first ≡ true → is_inner c t.second ≡ true → label_at (groups c) t.first ≡ label_at (groups c) t.second
  same_label_lem ea eb =
      joined_alike (groups c) t.first t.second
      (groups_join c (all_legal l) t.first t.second
      (linked_over (record { transistor = t; listed = at_member c.transistors no_transistor i h; inner = and_both (is_inner c t.first) (is_inner c t.second) ea eb; ends = inl (refl, refl) }) (linked_same refl)))

  -- the label of a node's group is that of its transistors
  pub group_is : (n : ℕ) → of_group c n (transistor_at c i) ≡ true → label_at (groups c) n ≡ group_of c (transistor_at c i)
  group_is n = one_of (is_inner c t.first) (is_inner c t.second) (label_at (groups c) t.first) (label_at (groups c) t.second) same_label_lem (label_at (groups c) n)

-- a laid-out cell
module _ (net : List ℕ) (k : Laid (net_circuit net) net) where
  pub laid_legal : LegalCell (net_circuit net)
  laid_legal = legal_cell k.legal

  module _ (i : ℕ) (h : i < at net 1) where
    pub laid_at : transistor_at (net_circuit net) i ≡ net_transistor net i
    laid_at = transistor_at_lem net i h

    pub laid_below : i < length (net_circuit net).transistors
    laid_below = omega (arith, transistors_length net)

    pub laid_few : i < 64
    laid_few = omega (arith, k.within.transistors)

    pub laid_gate : (net_transistor net i).gate < 26
    laid_gate = omega (arith, (k.within.transistor i h).gate, k.within.nodes)

    pub laid_first : (net_transistor net i).first < 26
    laid_first = omega (arith, (k.within.transistor i h).first, k.within.nodes)

    pub laid_second : (net_transistor net i).second < 26
    laid_second = omega (arith, (k.within.transistor i h).second, k.within.nodes)

  -- an inner node's label, where the column has it
  pub laid_label : (n : ℕ) → n < 2 + at net 0 → is_inner (net_circuit net) n ≡ true → (at net (2288 + n) ≡ label_at (groups (net_circuit net)) n) × (at net (2288 + n) < 26)
  laid_label n lt e =
      let node : IsNode (length (net_circuit net).nodes) n = inner_node_lem (net_circuit net) (length (net_circuit net).nodes) n e (omega (arith, nodes_length net)) in
      let label : IsNode (length (net_circuit net).nodes) (label_at (groups (net_circuit net)) n) = label_node (net_circuit net) laid_legal n node in
      let same : at net (2288 + n) ≡ label_at (groups (net_circuit net)) n = k.group n node.least lt in
      (same, omega (arith, label.most, nodes_length net, k.within.nodes))

  module _ (i : ℕ) (h : i < at net 1) where
    -- the group's label by the first end
    pub laid_by_first : is_inner (net_circuit net) (net_transistor net i).first ≡ true
        → (at net (2288 + (net_transistor net i).first) ≡ group_of (net_circuit net) (net_transistor net i)) × (at net (2288 + (net_transistor net i).first) < 26)
    laid_by_first e =
        let z : (at net (2288 + (net_transistor net i).first) ≡ label_at (groups (net_circuit net)) (net_transistor net i).first) × (at net (2288 + (net_transistor net i).first) < 26) =
        laid_label (net_transistor net i).first (k.within.transistor i h).first e in
        (rw e z.0, z.1)

    -- and by the second
    pub laid_by_second : is_inner (net_circuit net) (net_transistor net i).first ≡ false → is_inner (net_circuit net) (net_transistor net i).second ≡ true
        → (at net (2288 + (net_transistor net i).second) ≡ group_of (net_circuit net) (net_transistor net i)) × (at net (2288 + (net_transistor net i).second) < 26)
    laid_by_second f e =
        let z : (at net (2288 + (net_transistor net i).second) ≡ label_at (groups (net_circuit net)) (net_transistor net i).second) × (at net (2288 + (net_transistor net i).second) < 26) =
        laid_label (net_transistor net i).second (k.within.transistor i h).second e in
        (rw (f, e) z.0, z.1)

    -- a transistor with no inner end
    pub laid_no_group : is_inner (net_circuit net) (net_transistor net i).first ≡ false → is_inner (net_circuit net) (net_transistor net i).second ≡ false → 0 ≡ group_of (net_circuit net) (net_transistor net i)
    laid_no_group f e = rw (f, e)

  -- it is the number of a node record
  pub laid_least : (n : ℕ) → n < 2 + at net 0 → is_inner (net_circuit net) n ≡ true → 2 ≤ label_at (groups (net_circuit net)) n
  laid_least n lt e = (label_node (net_circuit net) laid_legal n (inner_node_lem (net_circuit net) (length (net_circuit net).nodes) n e (omega (arith, nodes_length net)))).least

  -- a rail is none
  pub laid_rail : (n : ℕ) → n < 2 → is_input (net_circuit net) n ≡ false
  laid_rail n lt = rw (lt-leb 2 n lt)

  -- a transistor is legal
  pub laid_transistor : (i : ℕ) → i < at net 1 → LegalTransistor (length (net_circuit net).nodes) (net_transistor net i)
  laid_transistor i h = subst (LegalTransistor (length (net_circuit net).nodes)) (laid_at i h) (laid_legal.transistor i (laid_below i h))

  pub laid_nodes : length (net_circuit net).nodes ≤ 24
  laid_nodes = omega (arith, nodes_length net, k.within.nodes)

  -- the ends of a channel between inner nodes
  pub laid_between : (i : ℕ) → i < at net 1 → between_inner (net_circuit net) (net_transistor net i) ≡ true
      → ((2 ≤ (net_transistor net i).first) × ((net_transistor net i).first < 26)) × ((2 ≤ (net_transistor net i).second) × ((net_transistor net i).second < 26))
  laid_between i h e =
      let nodes : length (net_circuit net).nodes ≡ at net 0 = nodes_length net in
      let two : IsNode (length (net_circuit net).nodes) (net_transistor net i).first × IsNode (length (net_circuit net).nodes) (net_transistor net i).second =
      ends_inner (net_circuit net) (length (net_circuit net).nodes) (net_transistor net i) (laid_transistor i h) e in
      ((two.0.least, laid_first i h), (two.1.least, laid_second i h))

-- a choice by a test that passes, or fails
pub if_so : {b : Bool} (x y : ℕ) → b ≡ true → x ≡ cond b x y
if_so x y e = rw e

pub if_not : {b : Bool} (x y : ℕ) → b ≡ false → y ≡ cond b x y
if_not x y e = rw e
