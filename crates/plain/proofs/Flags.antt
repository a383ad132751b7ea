-- Laws of the flags of kept transistors.
use mathlib.Core.Path.{◌≡◌, refl, sym, ◌∙◌, ap, ap₂, subst}
use mathlib.Core.Logic.{⊎_elim}
use mathlib.Core.Bool.{Bool, true, false, not, ◌&&◌, cond}
use mathlib.Core.List.{List, [], ◌∷◌, ◌++◌}
use Prim.Native.Nat.{ℕ, zero, suc, ◌+◌, ◌-◌}
use native.Mathlib.Omega.{arith}
use lib.ListN.{length, get_or, set}
use lib.Dec.{eqb}
use Rattle.lists.proofs.Cases.{bool_cases, and_left, and_right}
use Rattle.format.specs.declared.Transistor.{Transistor}
use Rattle.format.specs.Circuit.{Circuit}
use Rattle.rules.specs.State.{State, is_inner}
use Rattle.rules.specs.Label.{Labels, label_at, joined, join, between_inner}
use Rattle.rules.specs.Kept.{Channel, conducts, keeps, after_kept, kept_from}
use Rattle.rules.proofs.Label.{IsNode, inner_node_lem, length_join}
use Rattle.net.specs.Laid.{TransistorWithin}
use Rattle.net.specs.Written.{Labelled}
use Rattle.plain.specs.Leaf.{kept_by}
use Rattle.plain.specs.Shown.{Column, Shows}
use Rattle.plain.specs.Leaves.{conducts_at, keeps_at, OneKept, labels_after}
use Rattle.plain.proofs.Values.{value_shown}
use mir.Val.{bool_byte}

-- the test, read off columns, is that of the state and the labels
pub keeps_shown : (c : Circuit) (values labels : List ℕ) (s : State) (ls : Labels) (t : Transistor) → Column values → Shows c values s → length ls ≡ length c.nodes → Labelled labels 0 ls → TransistorWithin (length c.nodes) t
    → keeps_at c values labels t ≡ keeps c s ls t
keeps_shown c values labels s ls t w shows len was in-net =
    let p : conducts_at values t ≡ conducts s t = ap (λ (v : ℕ). eqb v (1 - t.polarity)) (sym (value_shown c values s w shows t.gate in-net.gate)) in
    let q : (between_inner c t && eqb (get_or labels t.first 0) (get_or labels t.second 0)) ≡ (between_inner c t && joined ls t.first t.second) =
    ⊎_elim
    (λ (e : between_inner c t ≡ true).
    let ia = inner_node_lem c (length ls) t.first (and_left (is_inner c t.first) (is_inner c t.second) e) (omega (arith, in-net.first)) in
    let ib = inner_node_lem c (length ls) t.second (and_right (is_inner c t.first) (is_inner c t.second) e) (omega (arith, in-net.second)) in
    rw e (ap₂ eqb (label t.first ia) (label t.second ib)))
    (λ (e : between_inner c t ≡ false). rw e)
    (bool_cases (between_inner c t)) in
    ap₂ (λ (a b : Bool). a && not b) p q
  where
    label : (n : ℕ) → IsNode (length ls) n → get_or labels n 0 ≡ label_at ls n
    label n h = let place : n ≡ 0 + n = omega arith in ap (λ (i : ℕ). get_or labels i 0) place ∙ was n h.least h.most

-- a test as a flag
pub flag_of : (b : Bool) → bool_byte b ≡ cond b 1 0
flag_of true = refl
flag_of false = refl

-- what one turn of the loop gives, by the test that it made
pub one_kept : (c : Circuit) (values : List ℕ) (i : ℕ) (t : Transistor) (leaf labels after : List ℕ) (b : Bool) (r : ℕ) → b ≡ keeps_at c values labels t → r ≡ cond b 1 0
    → ((ls : Labels) → length ls ≡ length c.nodes → Labelled labels 0 ls → Labelled after 0 (cond (b && between_inner c t) (join ls t.first t.second) ls))
    → OneKept c values i t leaf (set leaf (26 + i) r) labels after
one_kept c values i t leaf labels after b r e q joins = record {
  flag = ap (set leaf (26 + i)) (q ∙ ap (λ (x : Bool). cond x 1 0) e);
  joined = λ ls len was. subst (λ (x : Bool). Labelled after 0 (cond (x && between_inner c t) (join ls t.first t.second) ls)) e (joins ls len was);
}

-- one channel, if the test passes
abbrev pub one_channel : Bool → ℕ → Transistor → List Channel
one_channel b i t = cond b (record { number = i; transistor = t } ∷ []) []

cond_after : {A : Type 0} (b : Bool) (x : A) (xs ys : List A) → cond b (x ∷ (xs ++ ys)) (xs ++ ys) ≡ cond b (x ∷ xs) xs ++ ys
cond_after true x xs ys = refl
cond_after false x xs ys = refl

-- the flags, one transistor more
pub by_snoc : (flag : ℕ → Bool) (i : ℕ) (ts : List Transistor) (t : Transistor) → kept_by flag i (ts ++ t ∷ []) ≡ kept_by flag i ts ++ one_channel (flag (i + length ts)) (i + length ts) t
unfolding kept_by
by_snoc flag i [] t = let e : i + zero ≡ i = omega arith in rw e
by_snoc flag i (u ∷ ts) t =
    let e : i + suc (length ts) ≡ suc i + length ts = omega arith in
    let one : Channel = record { number = i; transistor = u } in
    rw (by_snoc flag (suc i) ts t, e) (cond_after (flag i) one (kept_by flag (suc i) ts) (one_channel (flag (suc i + length ts)) (suc i + length ts) t))

module _ (c : Circuit) (s : State) where
  after_length : (ls : Labels) (t : Transistor) → length (after_kept c s ls t) ≡ length ls
  after_length ls t =
      ⊎_elim
      (λ (e : keeps c s ls t && between_inner c t ≡ true). rw e (length_join ls t.first t.second))
      (λ (e : keeps c s ls t && between_inner c t ≡ false). rw e)
      (bool_cases (keeps c s ls t && between_inner c t))

  -- as many labels as before
  pub length_after_lem : (ls : Labels) (ts : List Transistor) → length (labels_after c s ls ts) ≡ length ls
  unfolding labels_after
  length_after_lem ls [] = refl
  length_after_lem ls (t ∷ ts) = length_after_lem (after_kept c s ls t) ts ∙ after_length ls t

  -- the labels, one transistor more
  pub after_snoc : (ls : Labels) (ts : List Transistor) (t : Transistor) → labels_after c s ls (ts ++ t ∷ []) ≡ after_kept c s (labels_after c s ls ts) t
  unfolding labels_after
  after_snoc ls [] t = refl
  after_snoc ls (u ∷ ts) t = after_snoc (after_kept c s ls u) ts t

  -- what rule 3 keeps, one transistor more
  pub kept_snoc : (ls : Labels) (i : ℕ) (ts : List Transistor) (t : Transistor) → kept_from c s ls i (ts ++ t ∷ []) ≡ kept_from c s ls i ts ++ one_channel (keeps c s (labels_after c s ls ts) t) (i + length ts) t
  unfolding kept_from labels_after
  kept_snoc ls i [] t = let e : i + zero ≡ i = omega arith in rw e
  kept_snoc ls i (u ∷ ts) t =
      let e : i + suc (length ts) ≡ suc i + length ts = omega arith in
      let one : Channel = record { number = i; transistor = u } in
      rw (kept_snoc (after_kept c s ls u) (suc i) ts t, e)
      (cond_after (keeps c s ls u) one (kept_from c s (after_kept c s ls u) (suc i) ts) (one_channel (keeps c s (labels_after c s (after_kept c s ls u) ts) t) (suc i + length ts) t))
