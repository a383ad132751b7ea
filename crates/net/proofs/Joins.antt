-- Laws of a row of numbers, of labels in a row, and of the groups.
use mathlib.Core.Path.{◌≡◌, refl, sym, ◌∙◌, ap, subst}
use mathlib.Core.Logic.{⊎_elim}
use mathlib.Core.Bool.{Bool, true, false, ◌&&◌, cond}
use mathlib.Core.List.{List, [], ◌∷◌, ◌++◌}
use Prim.Native.Nat.{ℕ, ◌+◌, ◌-◌, ◌≤◌, ◌<◌}
use native.Mathlib.Numerals.{add-one}
use native.Mathlib.Omega.{arith}
use lib.ListN.{length, get_or, take, set}
use lib.Seq.{take-suc, take_all, get_or-set_same, get_or-set_other}
use lib.Dec.{eqb}
use borrow.Author.Tests.{eq-eqb, ne_eqb}
use Rattle.lists.proofs.Cases.{bool_cases, lt_or_ge, and_left, and_right}
use Rattle.lists.proofs.Map.{map_at}
use Rattle.format.specs.declared.Transistor.{Transistor}
use Rattle.format.specs.Circuit.{Circuit, no_transistor}
use Rattle.rules.specs.State.{up_from, node_numbers, is_inner}
use Rattle.rules.specs.Label.{Labels, label_at, join, between_inner, link_from}
use Rattle.rules.specs.Group.{groups}
use Rattle.rules.proofs.State.{up_length, up_at}
use Rattle.rules.proofs.Label.{inner_node_lem, length_join}
use Rattle.net.specs.Net.{net_length, at, net_transistor, net_circuit}
use Rattle.net.specs.Laid.{Within}
use Rattle.net.specs.Loop.{linked_to, closes_loop, closes}
use Rattle.net.specs.Written.{OnlyAt, Row, relabelled, Labelled, same_label, noted, Linked, Grouped}
use Rattle.net.proofs.Only.{only_none, only_then, only_wider, only_set}
use Rattle.net.proofs.Laying.{nodes_length, transistors_length, transistor_at_lem, Same, same_only, same_transistor, same_circuit, same_within}

-- The loop that fills a row: after k turns its first k places hold f.
module _ (place : ℕ) (f : ℕ → ℕ) where
  pub row_none : (net : List ℕ) → Row place 0 f net net
  row_none net = record { rest = only_none place (place + 0) net; each = λ i h. absurd (omega arith) }

  pub row_more : (k v : ℕ) (before net : List ℕ) → Row place k f before net → place + k < length net → v ≡ f k → Row place (k + 1) f before (set net (place + k) v)
  row_more k v before net p h e = record {
    rest = only_then (only_wider place (place + (k + 1)) (omega arith) (omega arith) p.rest) (only_set place (place + (k + 1)) net (place + k) v (omega arith) (omega arith));
    each = λ i l. each i l;
  }
    where
      each : (i : ℕ) → i < k + 1 → at (set net (place + k) v) (place + i) ≡ f i
      each i l =
          ⊎_elim
          (λ (g : i < k). get_or-set_other net (place + k) (place + i) v 0 (omega arith) ∙ p.each i g)
          (λ (g : k ≤ i). let same : i ≡ k = omega arith in rw same (get_or-set_same net (place + k) v 0 h ∙ e))
          (lt_or_ge i k)

  pub row_kept : (k : ℕ) (before net : List ℕ) → Row place k f before net → at net (place + k) ≡ f k → Row place (k + 1) f before net
  row_kept k before net p e = record {
    rest = only_wider place (place + (k + 1)) (omega arith) (omega arith) p.rest;
    each = λ i l. ⊎_elim (λ (g : i < k). p.each i g) (λ (g : k ≤ i). let same : i ≡ k = omega arith in rw same e) (lt_or_ge i k);
  }

-- at first each node's label is its number
pub labelled_first : (place nodes : ℕ) (before after : List ℕ) → nodes ≤ 24 → Row place 26 (λ (n : ℕ). n) before after → Labelled after place (up_from nodes 2)
labelled_first place nodes before after few row = λ n least most.
    let l : n < 2 + nodes = omega (arith, up_length nodes 2) in
    let e : 2 + (n - 2) ≡ n = omega arith in
    row.each n (omega arith) ∙ sym (up_at nodes 2 (n - 2) n (omega arith) ∙ e)

-- labels joined in the column are joined
pub labelled_join : (place : ℕ) (ls : Labels) (a b : ℕ) (before after : List ℕ) → length ls ≤ 24 → (2 ≤ a) × (a < 2 + length ls) → (2 ≤ b) × (b < 2 + length ls) → Labelled before place ls
    → Row place 26 (relabelled before place (at before (place + b)) (at before (place + a))) before after → Labelled after place (join ls a b)
labelled_join place ls a b before after few ia ib was row = λ n least most.
    let l : n < 2 + length ls = omega (arith, length_join ls a b) in
    row.each n (omega arith)
    ∙ rw (was n least l, was a ia.0 ia.1, was b ib.0 ib.1)
    (sym (map_at (λ (x : ℕ). cond (eqb x (label_at ls b)) (label_at ls a) x) ls n n (n - 2) (omega arith)))

-- as many labels as before
pub length_link : (c : Circuit) (ls : Labels) (ts : List Transistor) → length (link_from c ls ts) ≡ length ls
unfolding link_from
length_link c ls [] = refl
length_link c ls (t ∷ ts) =
    length_link c (cond (between_inner c t) (join ls t.first t.second) ls) ts
    ∙ ⊎_elim (λ (e : between_inner c t ≡ true). rw e (length_join ls t.first t.second)) (λ (e : between_inner c t ≡ false). rw e) (bool_cases (between_inner c t))

-- one transistor more
pub link_snoc : (c : Circuit) (ls : Labels) (ts : List Transistor) (t : Transistor) → link_from c ls (ts ++ t ∷ []) ≡ cond (between_inner c t) (join (link_from c ls ts) t.first t.second) (link_from c ls ts)
unfolding link_from
link_snoc c ls [] t = refl
link_snoc c ls (u ∷ ts) t = link_snoc c (cond (between_inner c u) (join ls u.first u.second) ls) ts t

module _ (c : Circuit) where
  pub length_linked : (k : ℕ) → length (linked_to c k) ≡ length c.nodes
  length_linked k = length_link c (node_numbers c) (take k c.transistors) ∙ up_length (length c.nodes) 2

  pub linked_first : node_numbers c ≡ linked_to c 0
  unfolding link_from
  linked_first = refl

  pub linked_more : (k : ℕ) (t : Transistor) → k < length c.transistors → get_or c.transistors k no_transistor ≡ t → linked_to c (k + 1) ≡ cond (between_inner c t) (join (linked_to c k) t.first t.second) (linked_to c k)
  linked_more k t h e =
      ap (link_from c (node_numbers c)) (ap (λ (x : ℕ). take x c.transistors) (add-one k) ∙ take-suc c.transistors k no_transistor h)
      ∙ link_snoc c (node_numbers c) (take k c.transistors) (get_or c.transistors k no_transistor)
      ∙ ap (λ (u : Transistor). cond (between_inner c u) (join (linked_to c k) u.first u.second) (linked_to c k)) e

  pub linked_all : (k : ℕ) → length c.transistors ≤ k → linked_to c k ≡ groups c
  unfolding groups
  linked_all k h = ap (link_from c (node_numbers c)) (take_all k c.transistors h)

-- a label for each node record
pub length_groups : (c : Circuit) → length (groups c) ≡ length c.nodes
unfolding groups
length_groups c = length_link c (node_numbers c) c.transistors ∙ up_length (length c.nodes) 2

-- a channel between inner nodes joins their labels
pub labels_joined : (place : ℕ) (c : Circuit) (t : Transistor) (before after : List ℕ) → length c.nodes ≤ 24 → t.first < 2 + length c.nodes → t.second < 2 + length c.nodes → between_inner c t ≡ true
    → Row place 26 (relabelled before place (at before (place + t.second)) (at before (place + t.first))) before after
    → (ls : Labels) → length ls ≡ length c.nodes → Labelled before place ls → Labelled after place (cond (between_inner c t) (join ls t.first t.second) ls)
labels_joined place c t before after few a b e row ls len was =
    let ia = inner_node_lem c (length ls) t.first (and_left (is_inner c t.first) (is_inner c t.second) e) (omega arith) in
    let ib = inner_node_lem c (length ls) t.second (and_right (is_inner c t.first) (is_inner c t.second) e) (omega arith) in
    rw e (labelled_join place ls t.first t.second before after (omega arith) (ia.least, ia.most) (ib.least, ib.most) was row)

pub linked_joined : (c : Circuit) (t : Transistor) (before after : List ℕ) → length c.nodes ≤ 24 → t.first < 2 + length c.nodes → t.second < 2 + length c.nodes → between_inner c t ≡ true
    → Row 2288 26 (relabelled before 2288 (at before (2288 + t.second)) (at before (2288 + t.first))) before after → Linked c t before after
linked_joined c t before after few a b e row = record { rest = row.rest; labels = labels_joined 2288 c t before after few a b e row }

-- another leaves them
pub linked_apart : (c : Circuit) (t : Transistor) (net : List ℕ) → between_inner c t ≡ false → Linked c t net net
linked_apart c t net e = record { rest = only_none 2288 2314 net; labels = λ ls len was. rw e was }

-- what noting a transistor leaves: it closes no loop
pub noted_apart : (c : Circuit) (t : Transistor) (i : ℕ) (net : List ℕ) → between_inner c t ≡ false → net ≡ noted c t i net
noted_apart c t i net e = rw e refl

pub noted_open : (c : Circuit) (t : Transistor) (i : ℕ) (net : List ℕ) → between_inner c t ≡ true → (at net (2288 + t.first) ≡ at net (2288 + t.second) → ⊥) → net ≡ noted c t i net
noted_open c t i net e n = rw (e, ne_eqb (at net (2288 + t.first)) (at net (2288 + t.second)) n) refl

-- it closes one
pub noted_closed : (c : Circuit) (t : Transistor) (i : ℕ) (net : List ℕ) → between_inner c t ≡ true → at net (2288 + t.first) ≡ at net (2288 + t.second) → set net 2314 (i + 1) ≡ noted c t i net
noted_closed c t i net e q = rw (e, eq-eqb (at net (2288 + t.first)) (at net (2288 + t.second)) q) refl

-- only its own place changes
pub noted_only : (c : Circuit) (t : Transistor) (i : ℕ) (net : List ℕ) → OnlyAt 2314 2315 net (noted c t i net)
noted_only c t i net = by (between_inner c t && same_label net t)
  where
    by : (b : Bool) → OnlyAt 2314 2315 net (cond b (set net 2314 (i + 1)) net)
    by true = only_set 2314 2315 net 2314 (i + 1) (omega arith) (omega arith)
    by false = only_none 2314 2315 net

-- the labels in the column say whether it closes a loop
closes_same : (c : Circuit) (t : Transistor) (net : List ℕ) (ls : Labels) → length ls ≡ length c.nodes → t.first < 2 + length c.nodes → t.second < 2 + length c.nodes → Labelled net 2288 ls
    → between_inner c t && same_label net t ≡ closes_loop c ls t
closes_same c t net ls len a b was =
    ⊎_elim
    (λ (e : between_inner c t ≡ true).
    let ia = inner_node_lem c (length ls) t.first (and_left (is_inner c t.first) (is_inner c t.second) e) (omega arith) in
    let ib = inner_node_lem c (length ls) t.second (and_right (is_inner c t.first) (is_inner c t.second) e) (omega arith) in
    rw (was t.first ia.least ia.most, was t.second ib.least ib.most) refl)
    (λ (e : between_inner c t ≡ false). rw e refl)
    (bool_cases (between_inner c t))

-- a transistor that is noted has its number at the place; another closes no loop
noted_says : (b : Bool) (net : List ℕ) (i : ℕ) → 2314 < length net → at (cond b (set net 2314 (i + 1)) net) 2314 ≤ i → b ≡ false
noted_says true net i long h = absurd (omega (arith, get_or-set_same net 2314 (i + 1) 0 long))
noted_says false net i long h = refl

noted_less : (b : Bool) (net : List ℕ) (i j : ℕ) → 2314 < length net → at (cond b (set net 2314 (i + 1)) net) 2314 ≤ j → j < i → at net 2314 ≤ j
noted_less true net i j long h l = absurd (omega (arith, get_or-set_same net 2314 (i + 1) 0 long))
noted_less false net i j long h l = h

-- The loop over the transistors, from a column with each node's own label on.
pub record Grouping (first : List ℕ) (count i : ℕ) (net : List ℕ) : Type 0 where
  pub long : length first ≡ net_length
  pub within : Within first
  pub is_count : count ≡ at first 1
  pub few : i ≤ count
  pub rest : OnlyAt 2288 2315 first net
  pub labels : Labelled net 2288 (linked_to (net_circuit first) i)
  pub loops : (j : ℕ) → at net 2314 ≤ j → j < i → closes (net_circuit first) j ≡ false

module _ (entry first : List ℕ) (long : length entry ≡ net_length) (w : Within entry) (row : Row 2288 26 (λ (n : ℕ). n) entry first) where
  same_first : Same entry first
  same_first = same_only (omega arith) row.rest

  pub grouping_first : Grouping first (at first 1) 0 first
  grouping_first =
      let w₁ = same_within entry first same_first w in
      record {
        long = row.rest.long ∙ long;
        within = w₁;
        is_count = refl;
        few = omega arith;
        rest = only_none 2288 2315 first;
        loops = λ j _ l. absurd (omega arith);
        labels = subst (Labelled first 2288) (linked_first (net_circuit first)) (labelled_first 2288 (length (net_circuit first).nodes) entry first (omega (arith, nodes_length first, w₁.nodes)) row);
      }

  pub grouping_done : (count i : ℕ) (net : List ℕ) → Grouping first count i net → count ≤ i → Grouped (net_circuit entry) entry net
  grouping_done count i net g h =
      let m = transistors_length first in
      let k = g.is_count in
      let all : linked_to (net_circuit first) i ≡ groups (net_circuit entry) = linked_all (net_circuit first) i (omega arith) ∙ ap groups (same_circuit entry first same_first w) in
      let same : net_circuit first ≡ net_circuit entry = same_circuit entry first same_first w in
      record {
        rest = only_then {b = first} (only_wider 2288 2315 (omega arith) (omega arith) row.rest) g.rest;
        labels = subst (Labelled net 2288) all g.labels;
        loops = λ j le lt. subst (λ (c : Circuit). closes c j ≡ false) same (g.loops j le (omega (arith, ap (λ (c : Circuit). length c.transistors) same)));
      }

module _ (first : List ℕ) (count i : ℕ) (net : List ℕ) (g : Grouping first count i net) (h : i < count) where
  same_net : Same first net
  same_net = same_only (omega arith) g.rest

  pub grouping_long : length net ≡ net_length
  grouping_long = g.rest.long ∙ g.long

  pub grouping_within : Within net
  grouping_within = same_within first net same_net g.within

  pub grouping_below : i < at net 1
  grouping_below = omega (arith, same_net 1 (omega arith), g.is_count)

  module _ (mid next : List ℕ) (m : mid ≡ noted (net_circuit net) (net_transistor net i) i net) where
    abbrev c : Circuit
    c = net_circuit first

    abbrev t : Transistor
    t = net_transistor first i

    few : i < at first 1
    few = omega (arith, g.is_count)

    c_is : net_circuit net ≡ c
    c_is = same_circuit first net same_net g.within

    t_is : net_transistor net i ≡ t
    t_is = same_transistor first net same_net i (omega (arith, g.within.transistors))

    mid_only : OnlyAt 2314 2315 net mid
    mid_only = rw m (noted_only (net_circuit net) (net_transistor net i) i net)

    mid_rest : OnlyAt 2288 2315 first mid
    mid_rest = only_then {b = net} g.rest (only_wider 2288 2315 (omega arith) (omega arith) mid_only)

    same_mid : Same first mid
    same_mid = same_only (omega arith) mid_rest

    pub noted_long : length mid ≡ net_length
    noted_long = mid_rest.long ∙ g.long

    pub noted_within : Within mid
    noted_within = same_within first mid same_mid g.within

    pub noted_below : i < at mid 1
    noted_below = omega (arith, same_mid 1 (omega arith), g.is_count)

    ends : (t.first < 2 + length c.nodes) × (t.second < 2 + length c.nodes)
    ends = let w = g.within.transistor i few in (omega (arith, w.first, nodes_length first), omega (arith, w.second, nodes_length first))

    mid_labels : Labelled mid 2288 (linked_to c i)
    mid_labels n least most = mid_only.below (2288 + n) (omega (arith, length_linked c i, nodes_length first, g.within.nodes)) ∙ g.labels n least most

    closes_is : between_inner (net_circuit net) (net_transistor net i) && same_label net (net_transistor net i) ≡ closes c i
    closes_is =
        ap (λ (x : Circuit). between_inner x (net_transistor net i) && same_label net (net_transistor net i)) c_is
        ∙ ap (λ (u : Transistor). between_inner c u && same_label net u) t_is
        ∙ closes_same c t net (linked_to c i) (length_linked c i) ends.0 ends.1 g.labels
        ∙ ap (closes_loop c (linked_to c i)) (sym (transistor_at_lem first i few))

    mid_loops : (j : ℕ) → at mid 2314 ≤ j → j < i + 1 → closes c j ≡ false
    mid_loops j le lt =
        let long : 2314 < length net = omega (arith, g.rest.long, g.long) in
        ⊎_elim
        (λ (l : j < i). g.loops j (noted_less (between_inner (net_circuit net) (net_transistor net i) && same_label net (net_transistor net i)) net i j long (subst (λ (x : List ℕ). at x 2314 ≤ j) m le) l) l)
        (λ (l : i ≤ j).
        let same : j ≡ i = omega arith in
        let le-i : at mid 2314 ≤ i = omega (arith, le, same) in
        rw same (sym closes_is ∙ noted_says (between_inner (net_circuit net) (net_transistor net i) && same_label net (net_transistor net i)) net i long (subst (λ (x : List ℕ). at x 2314 ≤ i) m le-i)))
        (lt_or_ge j i)

    pub grouping_more : Linked (net_circuit mid) (net_transistor mid i) mid next → Grouping first count (i + 1) next
    grouping_more l =
        let tm : net_transistor mid i ≡ t = same_transistor first mid same_mid i (omega (arith, g.within.transistors)) in
        let linked : Linked c t mid next = rw (same_circuit first mid same_mid g.within, tm) at l in
        let more : linked_to c (i + 1) ≡ cond (between_inner c t) (join (linked_to c i) t.first t.second) (linked_to c i) =
        linked_more c i t (omega (arith, transistors_length first, few)) (transistor_at_lem first i few) in
        record {
          long = g.long;
          within = g.within;
          is_count = g.is_count;
          few = omega arith;
          rest = only_then {b = mid} mid_rest (only_wider 2288 2315 (omega arith) (omega arith) l.rest);
          labels = subst (Labelled next 2288) (sym more) (linked.labels (linked_to c i) (length_linked c i) mid_labels);
          loops = λ j le lt. mid_loops j (omega (arith, le, l.rest.above 2314 (omega arith))) lt;
        }
