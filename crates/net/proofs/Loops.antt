-- A transistor that closes no loop of channels is kept wherever it conducts: what kept ones have joined, channels have linked.
use mathlib.Core.Path.{◌≡◌, refl, sym, ◌∙◌, ap, subst}
use mathlib.Core.Logic.{⊎_elim, inl, inr}
use mathlib.Core.Bool.{Bool, true, false, ◌&&◌, cond, and-true}
use Prim.Native.Nat.{ℕ, zero, suc, ◌≤◌, ◌<◌}
use native.Mathlib.Omega.{arith}
use native.Mathlib.Numerals.{add-one}
use lib.ListN.{length}
use Rattle.lists.proofs.Cases.{bool_cases, and_both, true_false}
use Rattle.format.specs.declared.Transistor.{Transistor}
use Rattle.format.specs.Circuit.{Circuit}
use Rattle.format.proofs.Legal.{LegalTransistor, LegalCell}
use Rattle.rules.specs.State.{State}
use Rattle.rules.specs.Label.{Labels, joined, join, between_inner}
use Rattle.rules.specs.Kept.{conducts, keeps, after_kept}
use Rattle.rules.proofs.State.{up_length}
use Rattle.rules.proofs.Label.{IsNode, Joined, Through, join_exactly, ends_inner, length_join}
use Rattle.rules.specs.Matrix.{is_kept, transistor_at}
use Rattle.rules.proofs.Matrix.{labels_from, labels_at, kept_by_labels}
use Rattle.net.specs.Loop.{linked_to, closes}
use Rattle.net.proofs.Joins.{linked_first, linked_more, length_linked}

-- what some labels join, others join too
record Below (nodes : ℕ) (ls gs : Labels) : Type 0 where
  size : length ls ≡ nodes
  sizes : length gs ≡ nodes
  below : (x y : ℕ) → IsNode nodes x → IsNode nodes y → Joined ls x y → Joined gs x y

-- two labels joined in both
below_both : {nodes : ℕ} {ls gs : Labels} (a b : ℕ) → IsNode nodes a → IsNode nodes b → Below nodes ls gs → Below nodes (join ls a b) (join gs a b)
below_both {nodes} {ls} {gs} a b ha hb h = record {
  size = length_join ls a b ∙ h.size;
  sizes = length_join gs a b ∙ h.sizes;
  below = λ x y hx hy j. (join_exactly gs a b x y (at_gs x hx) (at_gs y hy)).1 (through x y hx hy ((join_exactly ls a b x y (at_ls x hx) (at_ls y hy)).0 j));
}
  where
    at_ls : (x : ℕ) → IsNode nodes x → IsNode (length ls) x
    at_ls x hx = subst (λ (n : ℕ). IsNode n x) (sym h.size) hx

    at_gs : (x : ℕ) → IsNode nodes x → IsNode (length gs) x
    at_gs x hx = subst (λ (n : ℕ). IsNode n x) (sym h.sizes) hx

    through : (x y : ℕ) → IsNode nodes x → IsNode nodes y → Through (Joined ls) a b x y → Through (Joined gs) a b x y
    through x y hx hy (inl j) = inl (h.below x y hx hy j)
    through x y hx hy (inr (inl j)) = inr (inl (h.below x a hx ha j.0, h.below y b hy hb j.1))
    through x y hx hy (inr (inr j)) = inr (inr (h.below x b hx hb j.0, h.below y a hy ha j.1))

-- or in the others alone
below_more : {nodes : ℕ} {ls gs : Labels} (a b : ℕ) → Below nodes ls gs → Below nodes ls (join gs a b)
below_more {nodes} {ls} {gs} a b h = record {
  size = h.size;
  sizes = length_join gs a b ∙ h.sizes;
  below = λ x y hx hy j. (join_exactly gs a b x y (subst (λ (n : ℕ). IsNode n x) (sym h.sizes) hx) (subst (λ (n : ℕ). IsNode n y) (sym h.sizes) hy)).1 (inl (h.below x y hx hy j));
}

module _ (c : Circuit) (l : LegalCell c) (s : State) where
  -- one transistor more
  below_step : (ls gs : Labels) (t : Transistor) → LegalTransistor (length c.nodes) t → Below (length c.nodes) ls gs
      → Below (length c.nodes) (after_kept c s ls t) (cond (between_inner c t) (join gs t.first t.second) gs)
  below_step ls gs t legal h = by (keeps c s ls t) (between_inner c t) refl
    where
      by : (k b : Bool) → between_inner c t ≡ b → Below (length c.nodes) (cond (k && b) (join ls t.first t.second) ls) (cond b (join gs t.first t.second) gs)
      by true true e = let ends = ends_inner c (length c.nodes) t legal e in below_both t.first t.second ends.0 ends.1 h
      by false true e = below_more t.first t.second h
      by true false e = h
      by false false e = h

  -- what the kept ones of the first i have joined, their channels have linked
  below : (i : ℕ) → i ≤ length c.transistors → Below (length c.nodes) (labels_at c s i) (linked_to c i)
  unfolding labels_from
  below zero h = record { size = up_length (length c.nodes) 2; sizes = length_linked c 0; below = λ x y hx hy j. subst (λ (ls : Labels). Joined ls x y) (linked_first c) j }
  below (suc i) h =
      let more = linked_more c i (transistor_at c i) (omega arith) refl in
      subst (λ (gs : Labels). Below (length c.nodes) (after_kept c s (labels_at c s i) (transistor_at c i)) gs)
      (sym more ∙ ap (linked_to c) (add-one i))
      (below_step (labels_at c s i) (linked_to c i) (transistor_at c i) (l.transistor i (omega arith)) (below i (omega arith)))

  -- so one that closes no loop is kept exactly if it conducts
  pub kept_open : (i : ℕ) → i < length c.transistors → closes c i ≡ false → is_kept c s i ≡ conducts s (transistor_at c i)
  kept_open i h open' =
      kept_by_labels c s i h
      ∙ ⊎_elim
      (λ (e : between_inner c (transistor_at c i) ≡ true).
      let ends = ends_inner c (length c.nodes) (transistor_at c i) (l.transistor i h) e in
      let apart : joined (labels_at c s i) (transistor_at c i).first (transistor_at c i).second ≡ false =
      ⊎_elim
      (λ (j : joined (labels_at c s i) (transistor_at c i).first (transistor_at c i).second ≡ true).
      absurd (true_false (closes c i)
      (and_both (between_inner c (transistor_at c i)) (joined (linked_to c i) (transistor_at c i).first (transistor_at c i).second) e
      ((below i (omega arith)).below (transistor_at c i).first (transistor_at c i).second ends.0 ends.1 j))
      open'))
      (λ (j : joined (labels_at c s i) (transistor_at c i).first (transistor_at c i).second ≡ false). j)
      (bool_cases (joined (labels_at c s i) (transistor_at c i).first (transistor_at c i).second)) in
      rw (e, apart) (and-true (conducts s (transistor_at c i))))
      (λ (e : between_inner c (transistor_at c i) ≡ false). rw e (and-true (conducts s (transistor_at c i))))
      (bool_cases (between_inner c (transistor_at c i)))
