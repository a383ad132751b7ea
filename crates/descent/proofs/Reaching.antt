-- Pieces by the transistors that are not off: which nodes are joined, and whether a piece holds a seed.
use mathlib.Core.Path.{◌≡◌, refl, sym, ◌∙◌, ap, subst}
use mathlib.Core.Logic.{inl, ⊎_elim}
use mathlib.Core.List.{List, [], ◌∷◌, Memᴰ}
use mathlib.Core.Bool.{Bool, true, false, not, ◌&&◌, ◌||◌, cond}
use Prim.Native.Nat.{ℕ, ◌+◌, ◌-◌, ◌<◌}
use native.Mathlib.Omega.{arith}
use lib.ListN.{length, get_or}
use lib.Dec.{eqb}
use borrow.Author.Tests.{eqb-true, not-true}
use Rattle.lists.proofs.Cases.{and_left, and_right, and_both}
use Rattle.format.specs.declared.Transistor.{Transistor}
use Rattle.format.specs.Circuit.{Circuit, no_transistor}
use Rattle.format.proofs.Legal.{LegalCell, LegalTransistor, legal_cell}
use Rattle.rules.specs.State.{node_numbers, is_driven, is_inner}
use Rattle.rules.specs.Label.{joined, between_inner}
use Rattle.rules.specs.Kept.{Channel}
use Rattle.rules.specs.Matrix.{carriers}
use Rattle.rules.specs.Sum.{far_end}
use Rattle.rules.proofs.Label.{IsNode, AllLegal, Joined, joined_sym, linked_same, linked_over, pieces_join, some_found, some_passes}
use Rattle.rules.proofs.Matrix.{at_member}
use Rattle.rules.proofs.Nodes.{node_member, member_node}
use Rattle.rules.proofs.Forest.{numbered}
use Rattle.net.specs.Net.{transistors_place, at, net_transistor, net_circuit, arms_from, arms_of, net_arms}
use Rattle.net.proofs.Laying.{transistors_length, transistor_at_lem}
use Rattle.net.proofs.NodeArms.{arms_end}
use Rattle.plain.specs.Leaf.{kept_by, net_channel}
use Rattle.plain.specs.Ready.{Net}
use Rattle.descent.specs.Settle.{is_seeded, is_off, parts, is_reached}
use Rattle.descent.specs.Piece.{is_end_of}
use Rattle.descent.proofs.Channels.{Flagged, by_flagged}
use Rattle.descent.proofs.Calm.{by_in}

-- the transistor of a channel is one of those of its list
carried : (ks : List Channel) (k : Channel) → Memᴰ k ks → Memᴰ k.transistor (carriers ks)
carried [] k m = absurd (mathlib.Core.List.Memᴰ.not-nil m)
carried (j ∷ ks) k m = ⊎_elim (λ (q : k ≡ j). mathlib.Core.List.Memᴰ.head (ap (λ (x : Channel). x.transistor) q)) (λ (r : Memᴰ k ks). mathlib.Core.List.Memᴰ.tail (carried ks k r)) (mathlib.Core.List.Memᴰ.cases_cons m)

-- and each of those is one's
carrying : (ks : List Channel) (t : Transistor) → Memᴰ t (carriers ks) → (k : Channel) × Memᴰ k ks × (t ≡ k.transistor)
carrying [] t m = absurd (mathlib.Core.List.Memᴰ.not-nil m)
carrying (j ∷ ks) t m =
    ⊎_elim
    (λ (q : t ≡ j.transistor). (j, mathlib.Core.List.Memᴰ.head refl, q))
    (λ (r : Memᴰ t (carriers ks)). let s = carrying ks t r in (s.0, mathlib.Core.List.Memᴰ.tail s.1, s.2))
    (mathlib.Core.List.Memᴰ.cases_cons m)

-- the transistors of some flags are the cell's
pub flags_of : (c : Circuit) (f : ℕ → Bool) (t : Transistor) → Memᴰ t (carriers (kept_by f 0 c.transistors)) → Memᴰ t c.transistors
flags_of c f t m =
    let k = carrying (kept_by f 0 c.transistors) t m in
    let h : Flagged f 0 c.transistors k.0 = by_flagged f 0 c.transistors k.0 k.1 in
    subst (λ (u : Transistor). Memᴰ u c.transistors) (sym (k.2 ∙ h.is)) (at_member c.transistors no_transistor (k.0.number - 0) (omega (arith, h.most)))

-- a transistor of some flags that others have too is one of theirs
pub flags_listed : (c : Circuit) (f g : ℕ → Bool) (P : Transistor → Type 0) → ((i : ℕ) → i < length c.transistors → P (get_or c.transistors i no_transistor) → f i ≡ true → g i ≡ true)
    → (t : Transistor) → Memᴰ t (carriers (kept_by f 0 c.transistors)) → P t → Memᴰ t (carriers (kept_by g 0 c.transistors))
flags_listed c f g P more t m p =
    let k = carrying (kept_by f 0 c.transistors) t m in
    let h : Flagged f 0 c.transistors k.0 = by_flagged f 0 c.transistors k.0 k.1 in
    let i : ℕ = k.0.number in
    let z : i - 0 ≡ i = omega arith in
    let o : 0 + i ≡ i = omega arith in
    let few : i < length c.transistors = omega (arith, h.most) in
    let is : t ≡ get_or c.transistors i no_transistor = k.2 ∙ h.is ∙ ap (λ (j : ℕ). get_or c.transistors j no_transistor) z in
    subst (λ (u : Transistor). Memᴰ u (carriers (kept_by g 0 c.transistors))) (sym is)
    (carried (kept_by g 0 c.transistors) (numbered (0 + i) (get_or c.transistors i no_transistor)) (by_in g 0 c.transistors i few (rw o (more i few (subst P is p) h.up))))

module _ (c : Circuit) where
  -- a piece holds a seed exactly if one of its nodes is one
  module _ (n : ℕ) (numbers : List ℕ) where
    pub reached_seed : is_reached c n numbers ≡ true → (m : ℕ) × IsNode (length c.nodes) m × (is_seeded numbers m ≡ true) × Joined (parts c numbers) n m
    unfolding is_reached
    reached_seed e =
        let f = some_found (λ (m : ℕ). is_seeded numbers m && joined (parts c numbers) n m) (node_numbers c) e in
        (f.0, member_node c f.0 f.1, and_left (is_seeded numbers f.0) _ f.2, and_right (is_seeded numbers f.0) _ f.2)

    pub seed_reached : (m : ℕ) → IsNode (length c.nodes) m → is_seeded numbers m ≡ true → Joined (parts c numbers) n m → is_reached c n numbers ≡ true
    unfolding is_reached
    seed_reached m h s j =
        some_passes (λ (m : ℕ). is_seeded numbers m && joined (parts c numbers) n m) (node_numbers c) m (node_member c m h) (and_both (is_seeded numbers m) (joined (parts c numbers) n m) s j)

module _ {net : List ℕ} (cell : Net net) (roots : List ℕ) where
  abbrev c : Circuit
  c = net_circuit net

  abbrev on : ℕ → Bool
  on i = not (is_off roots i)

  -- the transistors that are not off
  abbrev pub ons_of : List Transistor
  ons_of = carriers (kept_by on 0 c.transistors)

  pub on_listed : (i : ℕ) → i < at net transistors_place → is_off roots i ≡ false → Memᴰ (net_transistor net i) ons_of
  on_listed i h e =
      let inside : i < length c.transistors = omega (arith, transistors_length net) in
      let z : 0 + i ≡ i = omega arith in
      subst (λ (t : Transistor). Memᴰ t ons_of) (transistor_at_lem net i h)
      (carried (kept_by on 0 c.transistors) (numbered (0 + i) (get_or c.transistors i no_transistor)) (by_in on 0 c.transistors i inside (rw z (ap not e))))

  pub on_of : (t : Transistor) → Memᴰ t ons_of → (i : ℕ) × (i < at net transistors_place) × (is_off roots i ≡ false) × (t ≡ net_transistor net i)
  on_of t m =
      let k = carrying (kept_by on 0 c.transistors) t m in
      let f : Flagged on 0 c.transistors k.0 = by_flagged on 0 c.transistors k.0 k.1 in
      let z : k.0.number - 0 ≡ k.0.number = omega arith in
      let few : k.0.number < at net transistors_place = omega (arith, f.most, transistors_length net) in
      (k.0.number, few, not-true (is_off roots k.0.number) f.up, k.2 ∙ f.is ∙ ap (λ (i : ℕ). get_or c.transistors i no_transistor) z ∙ transistor_at_lem net k.0.number few)

  pub ons_legal : AllLegal (length c.nodes) ons_of
  ons_legal t m =
      let r = on_of t m in
      let l : LegalCell c = legal_cell cell.legal in
      subst (LegalTransistor (length c.nodes)) (transistor_at_lem net r.0 r.1 ∙ sym r.3) (l.transistor r.0 (omega (arith, r.1, transistors_length net)))

  -- a transistor that is not off joins its inner ends
  pub crossed_joined : (x i : ℕ) → i < at net transistors_place → is_end_of net i x ≡ true → is_off roots i ≡ false → is_driven c x ≡ false → is_driven c (far_end x (net_channel net i)) ≡ false
      → Joined (parts c roots) x (far_end x (net_channel net i))
  crossed_joined x i h end e dx dy = by (eqb (net_transistor net i).first x) refl end dy
    where
      link : between_inner c (net_transistor net i) ≡ true → Joined (parts c roots) (net_transistor net i).first (net_transistor net i).second
      link b =
          pieces_join c ons_of ons_legal (net_transistor net i).first (net_transistor net i).second
          (linked_over (record { transistor = net_transistor net i; listed = on_listed i h e; inner = b; ends = inl (refl, refl) }) (linked_same refl))

      by : (b : Bool) → eqb (net_transistor net i).first x ≡ b → b || eqb (net_transistor net i).second x ≡ true → is_driven c (cond b (net_transistor net i).second (net_transistor net i).first) ≡ false
          → Joined (parts c roots) x (cond b (net_transistor net i).second (net_transistor net i).first)
      by true q _ d =
          let z : (net_transistor net i).first ≡ x = eqb-true (net_transistor net i).first x q in
          subst (λ (y : ℕ). Joined (parts c roots) y (net_transistor net i).second) z
          (link (and_both (is_inner c (net_transistor net i).first) (is_inner c (net_transistor net i).second) (ap not (ap (is_driven c) z ∙ dx)) (ap not d)))
      by false q s d =
          let z : (net_transistor net i).second ≡ x = eqb-true (net_transistor net i).second x s in
          subst (λ (y : ℕ). Joined (parts c roots) y (net_transistor net i).first) z
          (joined_sym (parts c roots) (net_transistor net i).first (net_transistor net i).second
          (link (and_both (is_inner c (net_transistor net i).first) (is_inner c (net_transistor net i).second) (ap not d) (ap not (ap (is_driven c) z ∙ dx)))))

  -- an arm of a node has it at an end
  pub arm_end : (x k i : ℕ) → x < 2 + at net 0 → k < length (net_arms net x) → i ≡ get_or (net_arms net x) k 0 → i < at net transistors_place → is_end_of net i x ≡ true
  arm_end x k i small h is few =
      let list : net_arms net x ≡ arms_of c x = cell.arms x small in
      let r = arms_end x 0 c.transistors k (rw list at h) in
      let same : i ≡ get_or (arms_from x 0 c.transistors) k 0 = is ∙ ap (λ (l : List ℕ). get_or l k 0) list in
      let z : get_or (arms_from x 0 c.transistors) k 0 - 0 ≡ i = omega arith in
      subst (λ (t : Transistor). eqb t.first x || eqb t.second x ≡ true) (ap (λ (j : ℕ). get_or c.transistors j no_transistor) z ∙ transistor_at_lem net i few) r.1
