-- The next change of a node hangs on what its group reads: the values of the group's nodes, and those at gates and ends of its transistors.
use mathlib.Core.Path.{◌≡◌, refl, sym, ◌∙◌, ap, ap₂, subst}
use mathlib.Core.Logic.{◌⊎◌, inl, inr, ⊎_elim}
use mathlib.Core.List.{List, Memᴰ}
use mathlib.Core.Bool.{Bool, true, false, not, ◌&&◌, ◌||◌, cond, and-false}
use Prim.Native.Nat.{ℕ, zero, suc, ◌-◌, ◌≤◌, ◌<◌}
use native.Mathlib.Omega.{arith}
use lib.ListN.{length, get_or, drop}
use lib.Dec.{eqb}
use Rattle.lists.proofs.Cases.{and_right, and_both, bool_ext}
use Rattle.format.specs.declared.Transistor.{Transistor}
use Rattle.format.specs.Circuit.{Circuit, no_transistor}
use Rattle.format.proofs.Legal.{LegalCell}
use Rattle.rules.specs.State.{State, value_at, change_at, is_driven, is_inner}
use Rattle.rules.specs.Label.{joined, between_inner, only}
use Rattle.rules.specs.Group.{groups, in_group, of_group}
use Rattle.rules.specs.Reach.{conducts_around, reach, disturbed, touched}
use Rattle.rules.specs.Kept.{conducts, kept}
use Rattle.rules.proofs.State.{Numbered}
use Rattle.rules.proofs.Label.{IsNode, joined_refl, only_of, only_in}
use Rattle.rules.proofs.Reach.{end_piece, touched_seed, seed_touched, seed_node, reach_exactly, group_path}
use Rattle.rules.proofs.Forest.{kept_stems}
use Rattle.rules.proofs.Local.{touches, Shared, Local}
use Rattle.rules.specs.Matrix.{is_kept, transistor_at, Matrix, linked, matrix_at, is_held}
use Rattle.rules.proofs.Matrix.{at_member, group_kept}
use Rattle.plain.specs.Exceeded.{change_or_exceeded}
use Rattle.plain.proofs.Exceeding.{or_exceeded_local}
use Rattle.descent.specs.Settle.{is_of}
use Rattle.descent.proofs.Channels.{by_only, kept_by_lem, leaf_change_lem}
use Rattle.descent.proofs.Settled.{group_ends}
use Rattle.attempt.specs.Change.{pending_in, before_state, after_state, change_from}

module _ (c : Circuit) (s z : State) (looked : ℕ → Bool)
    (same : (i : ℕ) → i < length c.transistors → looked i ≡ true → conducts s (transistor_at c i) ≡ conducts z (transistor_at c i)) where
  seen : (i : ℕ) → i < length c.transistors → (conducts s (transistor_at c i) && looked i) ≡ (conducts z (transistor_at c i) && looked i)
  seen i h = by (looked i) (same i h)
    where
      by : (l : Bool) → (l ≡ true → conducts s (transistor_at c i) ≡ conducts z (transistor_at c i)) → (conducts s (transistor_at c i) && l) ≡ (conducts z (transistor_at c i) && l)
      by true e = ap (λ (b : Bool). b && true) (e refl)
      by false e = and-false (conducts s (transistor_at c i)) ∙ sym (and-false (conducts z (transistor_at c i)))

  -- the matrix of joined pairs hangs only on the transistors that are looked at
  matrix_same : (i : ℕ) → i ≤ length c.transistors → matrix_at c s looked i ≡ matrix_at c z looked i
  unfolding matrix_at
  matrix_same zero h = refl
  matrix_same (suc i) h =
      let t : Transistor = transistor_at c i in
      ap₂ (λ (v : Bool) (j : Matrix). linked ((v && not (between_inner c t && j t.first t.second)) && between_inner c t) t.first t.second j) (seen i (omega arith)) (matrix_same i (omega arith))

  -- and so do the transistors that it keeps
  held_same : (i : ℕ) → i < length c.transistors → is_held c s looked i ≡ is_held c z looked i
  held_same i h =
      let t : Transistor = transistor_at c i in
      ap₂ (λ (v : Bool) (j : Matrix). v && not (between_inner c t && j t.first t.second)) (seen i h) (matrix_same i (omega arith))

-- two states agree on what n's group reads
pub record SameRead (c : Circuit) (n : ℕ) (s z : State) : Type 0 where
  pub own : (m : ℕ) → in_group c n m ≡ true → value_at s m ≡ value_at z m
  pub gate : (t : Transistor) → Memᴰ t c.transistors → of_group c n t ≡ true → value_at s t.gate ≡ value_at z t.gate
  pub first : (t : Transistor) → Memᴰ t c.transistors → of_group c n t ≡ true → value_at s t.first ≡ value_at z t.first
  pub second : (t : Transistor) → Memᴰ t c.transistors → of_group c n t ≡ true → value_at s t.second ≡ value_at z t.second

-- and the other way round
read_back : {c : Circuit} {n : ℕ} {s z : State} → SameRead c n s z → SameRead c n z s
read_back r = record {
  own = λ m g. sym (r.own m g);
  gate = λ t at g. sym (r.gate t at g);
  first = λ t at g. sym (r.first t at g);
  second = λ t at g. sym (r.second t at g);
}

module _ (c : Circuit) (l : LegalCell c) (n : ℕ) where
  module _ {s z : State} (r : SameRead c n s z) where
    abbrev looked : ℕ → Bool
    looked i = of_group c n (transistor_at c i)

    conducts_same : (i : ℕ) → i < length c.transistors → looked i ≡ true → conducts s (transistor_at c i) ≡ conducts z (transistor_at c i)
    conducts_same i h e = ap (λ (v : ℕ). eqb v (1 - (transistor_at c i).polarity)) (r.gate (transistor_at c i) (at_member c.transistors no_transistor i h) e)

    -- the same of its transistors are kept
    kept_same : (i : ℕ) → i < length c.transistors → of_group c n (transistor_at c i) ≡ true → is_kept c s i ≡ is_kept c z i
    kept_same i h e =
        sym (group_kept c l n s looked (λ j g o. o) i h e)
        ∙ held_same c s z looked conducts_same i h
        ∙ group_kept c l n z looked (λ j g o. o) i h e

    channels_same : only (touches (in_group c n)) (kept c s) ≡ only (touches (in_group c n)) (kept c z)
    unfolding is_kept
    channels_same =
        ap (only (touches (in_group c n))) (kept_by_lem c s)
        ∙ by_only (in_group c n) (is_of (kept c s)) (is_of (kept c z)) 0 c.transistors
        (λ j _ h e.
        let at : j - 0 ≡ j = omega arith in
        kept_same j (omega arith) (subst (λ (i : ℕ). of_group c n (get_or c.transistors i no_transistor) ≡ true) at e))
        ∙ sym (ap (only (touches (in_group c n))) (kept_by_lem c z))

    read_local : Local c (in_group c n) s (kept c s) z (kept c z)
    read_local =
        let pass : (m : ℕ) → value_at s m ≡ value_at z m → (in_group c n m ≡ true) ⊎ (is_driven c m ≡ true) → Shared c (in_group c n) s z m =
        λ m v. ⊎_elim (λ (i : in_group c n m ≡ true). inl i) (λ (d : is_driven c m ≡ true). inr (d, v)) in
        record {
          same = channels_same;
          ends = λ k m e.
              let at : Memᴰ k.transistor c.transistors = (kept_stems c s k m).listed in
              let two = group_ends c l n k.transistor at e in
              (pass k.transistor.first (r.first k.transistor at e) two.0, pass k.transistor.second (r.second k.transistor at e) two.1);
          values = r.own;
        }

    -- the node has the same next change by rules 3 to 7
    next_same : (time : ℕ) → is_inner c n ≡ true → change_at s n ≡ change_at z n → change_or_exceeded c time s (kept c s) n ≡ change_or_exceeded c time z (kept c z) n
    next_same time inner e = or_exceeded_local read_local n (and_both (is_inner c n) (joined (groups c) n n) inner (joined_refl (groups c) n)) time e

  -- a seed of the group that it reaches is one in both
  seed_same : {b a y z : State} → SameRead c n b y → SameRead c n a z → is_inner c n ≡ true → Numbered c n → touched c (reach c b a) b a n ≡ true → touched c (reach c y z) y z n ≡ true
  seed_same {b} {a} {y} {z} hb ha inner own e =
      let node : IsNode (length c.nodes) n = record { least = own.least; most = own.most } in
      let s = touched_seed c (reach c b a) b a n e in
      let here : IsNode (length c.nodes) s.0 = seed_node c l b a s.1 in
      let t : Transistor = s.1.transistor in
      let way =
      group_path c l n (only (conducts_around b a) c.transistors) (only (conducts_around y z) c.transistors)
      (λ u m. (only_of (conducts_around b a) c.transistors u m).0)
      (λ u m g.
      let of = only_of (conducts_around b a) c.transistors u m in
      let same : conducts_around b a u ≡ conducts_around y z u = rw (hb.gate u of.0 g, ha.gate u of.0 g) in
      only_in (conducts_around y z) c.transistors u of.0 (sym same ∙ of.1))
      (and_both (is_inner c n) (joined (groups c) n n) inner (joined_refl (groups c) n))
      ((reach_exactly c l b a n s.0 node here).0 s.2) in
      let g : of_group c n t ≡ true = end_piece c (groups c) n t s.0 s.1.at s.1.inner (and_right (is_inner c s.0) (joined (groups c) n s.0) way.0) in
      let at : Memᴰ t c.transistors = s.1.listed in
      let same : disturbed c b a t ≡ disturbed c y z t = rw (hb.gate t at g, ha.gate t at g, hb.first t at g, ha.first t at g, hb.second t at g, ha.second t at g) in
      seed_touched c (reach c y z) y z n s.0
      (record { transistor = t; listed = at; at = s.1.at; inner = s.1.inner; moved = sym same ∙ s.1.moved })
      ((reach_exactly c l y z n s.0 node here).1 way.1)

  -- so the node is reconsidered in both or in neither
  touched_same : {b a y z : State} → SameRead c n b y → SameRead c n a z → is_inner c n ≡ true → Numbered c n → touched c (reach c b a) b a n ≡ touched c (reach c y z) y z n
  touched_same hb ha inner own = bool_ext _ _ (seed_same hb ha inner own) (seed_same (read_back hb) (read_back ha) inner own)

  -- so numbers of a pattern that differ only in what the group does not read give it the same next change
  pub from_same : (time : ℕ) (all : Bool) → is_inner c n ≡ true → Numbered c n → (one other : List ℕ)
      → SameRead c n (before_state c one) (before_state c other) → SameRead c n (after_state c time one) (after_state c time other) → pending_in time one ≡ pending_in time other
      → change_from c time all n one ≡ change_from c time all n other
  unfolding change_from
  from_same time all inner own one other hb ha p =
      let b : State = before_state c other in
      let a : State = after_state c time other in
      let w : touched c (reach c (before_state c one) (after_state c time one)) (before_state c one) (after_state c time one) n ≡ touched c (reach c b a) b a n = touched_same hb ha inner own in
      let q : change_at (after_state c time one) n ≡ change_at (after_state c time other) n =
      leaf_change_lem c (pending_in time one) (drop 26 one) n own ∙ p ∙ sym (leaf_change_lem c (pending_in time other) (drop 26 other) n own) in
      let x : change_or_exceeded c time (after_state c time one) (kept c (after_state c time one)) n ≡ change_or_exceeded c time (after_state c time other) (kept c (after_state c time other)) n =
      next_same ha time inner q in
      ap₂ (λ (r : Bool) (v : ℕ). cond (all || (is_inner c n && r)) v (pending_in time one)) w x
      ∙ ap (cond (all || (is_inner c n && touched c (reach c b a) b a n)) (change_or_exceeded c time (after_state c time other) (kept c (after_state c time other)) n)) p
