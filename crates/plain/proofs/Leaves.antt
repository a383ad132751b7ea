-- Laws of the loop that sets the flags, and of the leaf it makes.
use mathlib.Core.Path.{◌≡◌, refl, sym, ◌∙◌, ap, ap₂, subst}
use mathlib.Core.Logic.{⊎_elim}
use mathlib.Core.Bool.{Bool, ◌&&◌, cond}
use mathlib.Core.List.{List, [], ◌∷◌, ◌++◌}
use Prim.Native.Nat.{ℕ, ◌+◌, ◌-◌, ◌≤◌, ◌<◌}
use native.Mathlib.Numerals.{add-one}
use native.Mathlib.Omega.{arith}
use lib.ListN.{length, get_or, take, replicate, length-replicate}
use lib.Seq.{take-suc, take_all, length-take-le, get_or-set_same, get_or-set_other}
use lib.Dec.{eqb}
use Rattle.lists.proofs.Cases.{lt_or_ge}
use Rattle.lists.proofs.Count.{cond_le, cond_one}
use Rattle.lists.proofs.Padded.{replicate_read}
use Rattle.format.specs.declared.Transistor.{Transistor}
use Rattle.format.specs.Circuit.{Circuit, no_transistor}
use Rattle.rules.specs.State.{State, node_numbers}
use Rattle.rules.specs.Label.{Labels, join, between_inner}
use Rattle.rules.specs.Kept.{Channel, keeps, after_kept, kept, kept_from}
use Rattle.rules.proofs.State.{up_length, up_at}
use Rattle.net.specs.Net.{at, net_circuit}
use Rattle.net.specs.Laid.{TransistorWithin}
use Rattle.net.specs.Written.{OnlyAt, Row, Labelled}
use Rattle.net.proofs.Only.{only_none, only_then, only_wider, only_set}
use Rattle.net.proofs.Laying.{transistors_length}
use Rattle.net.specs.Roots.{leaf_length}
use Rattle.plain.specs.Leaf.{kept_by, is_kept}
use Rattle.plain.proofs.Arms.{by_ext}
use Rattle.plain.specs.Shown.{Column, Shows}
use Rattle.plain.specs.Leaves.{keeps_at, OneKept, labels_after, KeptTo, KeptLeaf}
use Rattle.plain.proofs.Flags.{keeps_shown, one_channel, by_snoc, length_after_lem, after_snoc, kept_snoc}

-- labels that were just started are the nodes' own
pub own_labels : (before labels : List ℕ) → Row 0 26 (λ (n : ℕ). n) before labels → (n : ℕ) → n < 26 → get_or labels n 0 ≡ n
own_labels before labels row n h = let place : n ≡ 0 + n = omega arith in ap (λ (i : ℕ). get_or labels i 0) place ∙ row.each n h

-- before the first transistor
pub kept_none : (c : Circuit) (values leaf labels : List ℕ) → length c.nodes ≤ 24 → ((n : ℕ) → n < 26 → get_or labels n 0 ≡ n) → KeptTo c values 0 leaf leaf labels
unfolding kept_by kept_from labels_after
kept_none c values leaf labels few own = record {
  rest = only_none 26 (26 + 0) leaf;
  bits = λ i h. absurd (omega arith);
  channels = λ s shows. refl;
  labelled = λ s shows n least most. first n least (omega (arith, up_length (length c.nodes) 2));
}
  where
    first : (n : ℕ) → 2 ≤ n → n < 2 + length c.nodes → at labels (0 + n) ≡ get_or (node_numbers c) (n - 2) n
    first n least most =
        let place : 0 + n ≡ n = omega arith in
        let e : 2 + (n - 2) ≡ n = omega arith in
        rw place (own n (omega arith)) ∙ sym (up_at (length c.nodes) 2 (n - 2) n (omega arith) ∙ e)

-- one transistor more
module _ (c : Circuit) (values : List ℕ) (k : ℕ) (before leaf next labels after : List ℕ) (w : Column values) (long : 26 + k < length leaf) (in_List : k < length c.transistors)
    (in-net : TransistorWithin (length c.nodes) (get_or c.transistors k no_transistor)) (so_far : KeptTo c values k before leaf labels)
    (one : OneKept c values k (get_or c.transistors k no_transistor) leaf next labels after) where
  t : Transistor
  t = get_or c.transistors k no_transistor

  ts : List Transistor
  ts = take k c.transistors

  more : take (k + 1) c.transistors ≡ ts ++ t ∷ []
  unfolding t ts
  more = ap (λ (x : ℕ). take x c.transistors) (add-one k) ∙ take-suc c.transistors k no_transistor in_List

  size : 0 + length ts ≡ k
  unfolding ts
  size = omega (arith, length-take-le k c.transistors (omega arith))

  flag : Bool
  flag = keeps_at c values labels (get_or c.transistors k no_transistor)

  new : get_or next (26 + k) 0 ≡ cond flag 1 0
  unfolding flag
  new = ap (λ (l : List ℕ). get_or l (26 + k) 0) one.flag ∙ get_or-set_same leaf (26 + k) _ 0 long

  old : (j : ℕ) → (j ≡ 26 + k → ⊥) → get_or next j 0 ≡ get_or leaf j 0
  old j ne = ap (λ (l : List ℕ). get_or l j 0) one.flag ∙ get_or-set_other leaf (26 + k) j _ 0 ne

  module _ (s : State) (shows : Shows c values s) where
    ls : Labels
    ls = labels_after c s (node_numbers c) (take k c.transistors)

    ls_long : length ls ≡ length c.nodes
    unfolding ls
    ls_long = length_after_lem c s (node_numbers c) (take k c.transistors) ∙ up_length (length c.nodes) 2

    flag_is : flag ≡ keeps c s ls t
    unfolding flag ls t
    flag_is = keeps_shown c values labels s ls t w shows ls_long (so_far.labelled s shows) in-net

    channels_more : kept_by (is_kept next) 0 (take (k + 1) c.transistors) ≡ kept_from c s (node_numbers c) 0 (take (k + 1) c.transistors)
    unfolding ts ls
    channels_more =
        let same : kept_by (is_kept next) 0 ts ≡ kept_by (is_kept leaf) 0 ts = by_ext (is_kept next) (is_kept leaf) 0 ts (λ j a b. ap (λ (x : ℕ). eqb x 1) (old (26 + j) (omega (arith, size)))) in
        let is : is_kept next k ≡ keeps c s ls t = ap (λ (x : ℕ). eqb x 1) new ∙ cond_one flag ∙ flag_is in
        let last : one_channel (is_kept next (0 + length ts)) (0 + length ts) t ≡ one_channel (keeps c s ls t) (0 + length ts) t =
        ap (λ (b : Bool). one_channel b (0 + length ts) t) (ap (is_kept next) size ∙ is) in
        ap (kept_by (is_kept next) 0) more ∙ by_snoc (is_kept next) 0 ts t
        ∙ ap₂ (λ (xs ys : List Channel). xs ++ ys) (same ∙ so_far.channels s shows) last
        ∙ sym (ap (kept_from c s (node_numbers c) 0) more ∙ kept_snoc c s (node_numbers c) 0 ts t)

    labelled_more : Labelled after 0 (labels_after c s (node_numbers c) (take (k + 1) c.transistors))
    unfolding ls ts t flag
    labelled_more =
        let e : labels_after c s (node_numbers c) (take (k + 1) c.transistors) ≡ after_kept c s ls t = ap (labels_after c s (node_numbers c)) more ∙ after_snoc c s (node_numbers c) ts t in
        let joined : Labelled after 0 (cond (flag && between_inner c t) (join ls t.first t.second) ls) = one.joined ls ls_long (so_far.labelled s shows) in
        subst (Labelled after 0) (ap (λ (b : Bool). cond (b && between_inner c t) (join ls t.first t.second) ls) flag_is ∙ sym e) joined

  pub kept_more : KeptTo c values (k + 1) before next after
  unfolding flag
  kept_more = record {
    rest =
        only_then {b = leaf} (only_wider 26 (26 + (k + 1)) (omega arith) (omega arith) so_far.rest)
        (subst (OnlyAt 26 (26 + (k + 1)) leaf) (sym one.flag) (only_set 26 (26 + (k + 1)) leaf (26 + k) (cond flag 1 0) (omega arith) (omega arith)));
    bits = λ i h.
        ⊎_elim
        (λ (l : i < k). rw (old (26 + i) (omega arith)) (so_far.bits i l))
        (λ (l : k ≤ i). let same : i ≡ k = omega arith in rw (same, new) (cond_le flag))
        (lt_or_ge i k);
    channels = channels_more;
    labelled = labelled_more;
  }

-- all of them
pub leaf_kept : (net values first leaf labels : List ℕ) → Row 0 26 (λ (n : ℕ). get_or values n 0) (replicate leaf_length 0) first → KeptTo (net_circuit net) values (at net 1) first leaf labels → KeptLeaf net values leaf
unfolding kept
leaf_kept net values first leaf labels row all = record {
  long = all.rest.long ∙ row.rest.long ∙ length-replicate {A = ℕ} leaf_length 0;
  same = λ n h. all.rest.below n h ∙ value n h;
  bits = λ i. ⊎_elim (λ (h : i < at net 1). all.bits i h) (λ (h : at net 1 ≤ i). rw (past i h) (omega arith)) (lt_or_ge i (at net 1));
  none = past;
  channels = λ s shows.
      let whole : take (at net 1) (net_circuit net).transistors ≡ (net_circuit net).transistors = take_all (at net 1) (net_circuit net).transistors (omega (arith, transistors_length net)) in
      rw whole at (all.channels s shows);
}
  where
    value : (n : ℕ) → n < 26 → get_or first n 0 ≡ get_or values n 0
    value n h = let place : n ≡ 0 + n = omega arith in ap (λ (i : ℕ). get_or first i 0) place ∙ row.each n h

    past : (i : ℕ) → at net 1 ≤ i → get_or leaf (26 + i) 0 ≡ 0
    past i h = all.rest.above (26 + i) (omega arith) ∙ row.rest.above (26 + i) (omega arith) ∙ replicate_read leaf_length (26 + i) 0
