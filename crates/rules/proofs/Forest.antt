-- The kept channels between inner nodes form a forest: each of them can be cut, so that its ends lie on two sides and no other kept channel
-- leads from side to side.
use mathlib.Core.Path.{◌≡◌, refl, sym, ◌∙◌, ap, ap₂, subst}
use mathlib.Core.Logic.{◌⊎◌, inl, inr, ⊎_elim}
use mathlib.Core.Bool.{Bool, true, false, not, ◌&&◌, cond}
use mathlib.Core.List.{List, [], ◌∷◌, ◌++◌, append-nil, Memᴰ}
use Prim.Native.Nat.{ℕ, suc, ◌≤◌, ◌<◌}
use native.Mathlib.Omega.{arith}
use lib.ListN.{length}
use lib.Seq.{append_snoc}
use lib.Dec.{eqb}
use borrow.Author.Tests.{eq-eqb, ne_eqb, eqb-false, not-true}
use Rattle.lists.proofs.Cases.{bool_cases, and_left, and_right}
use Rattle.format.specs.declared.Transistor.{Transistor}
use Rattle.format.specs.Circuit.{Circuit}
use Rattle.format.proofs.Legal.{LegalTransistor}
use Rattle.rules.specs.State.{State, node_numbers}
use Rattle.rules.specs.Label.{Labels, label_at, joined, join, between_inner}
use Rattle.rules.specs.Kept.{Channel, conducts, keeps, after_kept, kept_from, kept}
use Rattle.rules.proofs.State.{up_length}
use Rattle.rules.proofs.Label.{false_true, IsNode, AllLegal, ends_inner, Alike, length_join, join_keeps, join_links, Linked, linked_same, linked_over}

-- a kept channel between inner nodes
abbrev pub Inner : Circuit → Channel → Type 0
Inner c k = between_inner c k.transistor ≡ true

-- a cut of a channel: its ends lie on two sides, and the ends of every other channel of the list between inner nodes on one
pub record Cut (c : Circuit) (ks : List Channel) (k : Channel) : Type 0 where
  pub side : ℕ → Bool
  pub differs : side k.transistor.first ≡ side k.transistor.second → ⊥
  pub same : (j : Channel) → Memᴰ j ks → Inner c j → (j.number ≡ k.number → ⊥) → side j.transistor.first ≡ side j.transistor.second

-- every channel of the list between inner nodes has a cut
abbrev pub Forest : Circuit → List Channel → Type 0
Forest c ks = (k : Channel) → Memᴰ k ks → Inner c k → Cut c ks k

-- the side of a node turned where its label is b
turn : ℕ → ℕ → Bool → Bool
turn b l v = cond (eqb l b) (not v) v

turn_same : (b l : ℕ) (v : Bool) → l ≡ b → turn b l v ≡ not v
unfolding turn
turn_same b l v e = rw (eq-eqb l b e)

turn_other : (b l : ℕ) (v : Bool) → (l ≡ b → ⊥) → turn b l v ≡ v
unfolding turn
turn_other b l v h = rw (ne_eqb l b h)

not_back : (v w : Bool) → not v ≡ not w → v ≡ w
not_back true true e = refl
not_back true false e = false_true e
not_back false true e = false_true (sym e)
not_back false false e = refl

turn_back : (b l : ℕ) (v w : Bool) → turn b l v ≡ turn b l w → v ≡ w
unfolding turn
turn_back b l v w e = by (eqb l b) e
  where
    by : (t : Bool) → cond t (not v) v ≡ cond t (not w) w → v ≡ w
    by true f = not_back v w f
    by false f = f

same_or_not : (v w : Bool) → (v ≡ w) ⊎ (v ≡ not w)
same_or_not true true = inl refl
same_or_not true false = inr refl
same_or_not false true = inr refl
same_or_not false false = inl refl

-- what the labels and the channels kept so far have in common
record Grown (c : Circuit) (nodes : ℕ) (ls : Labels) (done : List Channel) : Type 0 where
  size : length ls ≡ nodes
  sound : (j : Channel) → Memᴰ j done → LegalTransistor nodes j.transistor
  agree : (j : Channel) → Memᴰ j done → Inner c j → Alike ls j.transistor.first j.transistor.second
  forest : Forest c done

module _ (c : Circuit) (nodes : ℕ) (ls : Labels) (done : List Channel) (g : Grown c nodes ls done) (k : Channel) (h : LegalTransistor nodes k.transistor) where
  -- what holds of all channels, of those so far and of the new one
  more : {P : Channel → Type 0} → ((j : Channel) → Memᴰ j done → P j) → P k → (j : Channel) → Memᴰ j (done ++ (k ∷ [])) → P j
  more {P} old new j m = ⊎_elim (λ (at : Memᴰ j done). old j at) (λ (at : Memᴰ j (k ∷ [])). subst P (sym (mathlib.Core.List.Memᴰ.eq_of_singleton at)) new) (mathlib.Core.List.Memᴰ.append_cases done m)

  module _ (e : Inner c k) (apart : Alike ls k.transistor.first k.transistor.second → ⊥) where
    -- the new channel's cut: what was joined with its second end, and the rest
    new_cut : Cut c (done ++ (k ∷ [])) k
    new_cut = record {
      side = λ x. turn (label_at ls k.transistor.second) (label_at ls x) false;
      differs = λ q. false_true (sym (turn_other _ _ false apart) ∙ q ∙ turn_same _ _ false refl);
      same = more
          (λ j at i n. ap (λ (l : ℕ). turn (label_at ls k.transistor.second) l false) (g.agree j at i))
          (λ i n. absurd (n refl));
    }

    -- an earlier one's cut, turned on one side of the new channel if its ends lay on two
    old_cut : (j : Channel) → Cut c done j → Inner c j → Alike ls j.transistor.first j.transistor.second → Cut c (done ++ (k ∷ [])) j
    old_cut j cut i alike =
        ⊎_elim
        (λ (q : cut.side k.transistor.first ≡ cut.side k.transistor.second).
        record { side = cut.side; differs = cut.differs; same = more cut.same (λ _ n. q) })
        (λ (q : cut.side k.transistor.first ≡ not (cut.side k.transistor.second)). record {
          side = λ x. turn (label_at ls k.transistor.second) (label_at ls x) (cut.side x);
          differs = λ r. cut.differs (turn_back (label_at ls k.transistor.second) (label_at ls j.transistor.first) _ _
              (r ∙ ap (λ (l : ℕ). turn (label_at ls k.transistor.second) l (cut.side j.transistor.second)) (sym alike)));
          same = more
              (λ u at iu n. ap₂ (turn (label_at ls k.transistor.second)) (g.agree u at iu) (cut.same u at iu n))
              (λ _ n. turn_other _ _ _ apart ∙ q ∙ sym (turn_same _ _ _ refl));
        })
        (same_or_not (cut.side k.transistor.first) (cut.side k.transistor.second))

    grow_inner : Grown c nodes (join ls k.transistor.first k.transistor.second) (done ++ (k ∷ []))
    grow_inner =
        let len : length ls ≡ nodes = g.size in
        let in_two : IsNode nodes k.transistor.first × IsNode nodes k.transistor.second = ends_inner c nodes k.transistor h e in
        record {
          size = length_join ls k.transistor.first k.transistor.second ∙ len;
          sound = more g.sound h;
          agree = more
              (λ j at i.
              let ends : IsNode nodes j.transistor.first × IsNode nodes j.transistor.second = ends_inner c nodes j.transistor (g.sound j at) i in
              join_keeps ls k.transistor.first k.transistor.second j.transistor.first j.transistor.second (omega (arith, ends.0)) (omega (arith, ends.1)) (g.agree j at i))
              (λ i. join_links ls k.transistor.first k.transistor.second k.transistor.first k.transistor.second (omega (arith, in_two.0)) (omega (arith, in_two.1)) refl refl);
          forest = more (λ j at i. old_cut j (g.forest j at i) i (g.agree j at i)) (λ i. new_cut);
        }

  grow_outer : between_inner c k.transistor ≡ false → Grown c nodes ls (done ++ (k ∷ []))
  grow_outer e = record {
    size = g.size;
    sound = more g.sound h;
    agree = more g.agree (λ i. false_true (sym e ∙ i));
    forest = more
        (λ j at i.
        let cut : Cut c done j = g.forest j at i in
        record { side = cut.side; differs = cut.differs; same = more cut.same (λ i' n. false_true (sym e ∙ i')) })
        (λ i. false_true (sym e ∙ i));
  }

-- a transistor with its number
abbrev pub numbered : ℕ → Transistor → Channel
numbered i t = record { number = i; transistor = t }

module _ (c : Circuit) (s : State) (ls : Labels) (i : ℕ) (t : Transistor) (ts : List Transistor) where
  -- a transistor that is not kept changes nothing
  pub kept_skips : keeps c s ls t ≡ false → kept_from c s ls i (t ∷ ts) ≡ kept_from c s ls (suc i) ts
  unfolding kept_from
  kept_skips e = rw e

  -- one that is kept, between inner nodes, joins them
  pub kept_joins : keeps c s ls t ≡ true → between_inner c t ≡ true → kept_from c s ls i (t ∷ ts) ≡ numbered i t ∷ kept_from c s (join ls t.first t.second) (suc i) ts
  unfolding kept_from
  kept_joins e b = rw (e, b)

  -- one that is kept at a driven end joins nothing
  pub kept_ends : keeps c s ls t ≡ true → between_inner c t ≡ false → kept_from c s ls i (t ∷ ts) ≡ numbered i t ∷ kept_from c s ls (suc i) ts
  unfolding kept_from
  kept_ends e b = rw (e, b)

-- of two inner nodes that a kept channel joins, the labels did not join them before
pub keeps_apart : (c : Circuit) (s : State) (ls : Labels) (t : Transistor) → keeps c s ls t ≡ true → between_inner c t ≡ true → Alike ls t.first t.second → ⊥
keeps_apart c s ls t e b =
    let open-ends : not (between_inner c t && joined ls t.first t.second) ≡ true = and_right (conducts s t) (not (between_inner c t && joined ls t.first t.second)) e in
    eqb-false (label_at ls t.first) (label_at ls t.second) (rw b at (not-true (between_inner c t && joined ls t.first t.second) open-ends))

module _ (c : Circuit) (s : State) (nodes : ℕ) where
  -- the kept channels that follow make the forest larger
  forest_from : (ts : List Transistor) (ls : Labels) (i : ℕ) (done : List Channel) → AllLegal nodes ts → Grown c nodes ls done → Forest c (done ++ kept_from c s ls i ts)
  unfolding kept_from
  forest_from [] ls i done h g = λ k m e. whole k m e
    where
      whole : Forest c (done ++ [])
      whole = subst (Forest c) (sym (append-nil done)) g.forest
  forest_from (t ∷ ts) ls i done h g =
      let later : AllLegal nodes ts = λ u m. h u (mathlib.Core.List.Memᴰ.tail m) in
      let k : Channel = numbered i t in
      let sound : LegalTransistor nodes t = h t (mathlib.Core.List.Memᴰ.head refl) in
      ⊎_elim
      (λ (e : keeps c s ls t ≡ true).
      ⊎_elim
      (λ (b : between_inner c t ≡ true).
      subst (Forest c)
      (append_snoc done k (kept_from c s (join ls t.first t.second) (suc i) ts) ∙ ap (λ (r : List Channel). done ++ r) (sym (kept_joins c s ls i t ts e b)))
      (forest_from ts (join ls t.first t.second) (suc i) (done ++ (k ∷ [])) later (grow_inner c nodes ls done g k sound b (keeps_apart c s ls t e b))))
      (λ (b : between_inner c t ≡ false).
      subst (Forest c)
      (append_snoc done k (kept_from c s ls (suc i) ts) ∙ ap (λ (r : List Channel). done ++ r) (sym (kept_ends c s ls i t ts e b)))
      (forest_from ts ls (suc i) (done ++ (k ∷ [])) later (grow_outer c nodes ls done g k sound b)))
      (bool_cases (between_inner c t)))
      (λ (e : keeps c s ls t ≡ false).
      subst (Forest c) (ap (λ (r : List Channel). done ++ r) (sym (kept_skips c s ls i t ts e))) (forest_from ts ls (suc i) done later g))
      (bool_cases (keeps c s ls t))

-- the kept channels form a forest
pub kept_forest : (c : Circuit) (s : State) → AllLegal (length c.nodes) c.transistors → Forest c (kept c s)
unfolding kept
kept_forest c s h =
    forest_from c s (length c.nodes) c.transistors (node_numbers c) 0 [] h
    (record {
      size = up_length (length c.nodes) 2;
      sound = λ j m. absurd (mathlib.Core.List.Memᴰ.not-nil m);
      agree = λ j m. absurd (mathlib.Core.List.Memᴰ.not-nil m);
      forest = λ j m. absurd (mathlib.Core.List.Memᴰ.not-nil m);
    })

-- channels whose numbers rise
unfoldable pub Rising : List Channel → Type 0
Rising [] = Unit
Rising (k ∷ ks) = ((j : Channel) → Memᴰ j ks → k.number < j.number) × Rising ks

-- what holds of a channel that is kept: its number is not below the first, and its transistor is one of the list and conducts
pub record Stems (s : State) (i : ℕ) (ts : List Transistor) (k : Channel) : Type 0 where
  pub least : i ≤ k.number
  pub listed : Memᴰ k.transistor ts
  pub conducting : conducts s k.transistor ≡ true

module _ (c : Circuit) (s : State) where
  stems_from : (ts : List Transistor) (ls : Labels) (i : ℕ) (k : Channel) → Memᴰ k (kept_from c s ls i ts) → Stems s i ts k
  unfolding kept_from
  stems_from [] ls i k m = absurd (mathlib.Core.List.Memᴰ.not-nil m)
  stems_from (t ∷ ts) ls i k m =
      let below : Memᴰ k (kept_from c s (after_kept c s ls t) (suc i) ts) → Stems s i (t ∷ ts) k = λ at. wider (stems_from ts (after_kept c s ls t) (suc i) k at) in
      by (keeps c s ls t) refl m below
    where
      wider : Stems s (suc i) ts k → Stems s i (t ∷ ts) k
      wider r = record { least = omega (arith, r.least); listed = mathlib.Core.List.Memᴰ.tail r.listed; conducting = r.conducting }

      first : keeps c s ls t ≡ true → k ≡ numbered i t → Stems s i (t ∷ ts) k
      first e q = record {
        least = omega (arith, ap (λ (j : Channel). j.number) q);
        listed = mathlib.Core.List.Memᴰ.head (ap (λ (j : Channel). j.transistor) q);
        conducting = ap (λ (j : Channel). conducts s j.transistor) q ∙ and_left (conducts s t) (not (between_inner c t && joined ls t.first t.second)) e;
      }

      by : (b : Bool) → keeps c s ls t ≡ b
          → Memᴰ k (cond b (numbered i t ∷ kept_from c s (after_kept c s ls t) (suc i) ts) (kept_from c s (after_kept c s ls t) (suc i) ts))
          → (Memᴰ k (kept_from c s (after_kept c s ls t) (suc i) ts) → Stems s i (t ∷ ts) k) → Stems s i (t ∷ ts) k
      by true e at below = ⊎_elim (λ (q : k ≡ numbered i t). first e q) below (mathlib.Core.List.Memᴰ.cases_cons at)
      by false e at below = below at

  rising_from_lem : (ts : List Transistor) (ls : Labels) (i : ℕ) → Rising (kept_from c s ls i ts)
  unfolding kept_from Rising
  rising_from_lem [] ls i = tt
  rising_from_lem (t ∷ ts) ls i = by (keeps c s ls t) (rising_from_lem ts (after_kept c s ls t) (suc i))
    where
      by : (b : Bool) → Rising (kept_from c s (after_kept c s ls t) (suc i) ts)
          → Rising (cond b (numbered i t ∷ kept_from c s (after_kept c s ls t) (suc i) ts) (kept_from c s (after_kept c s ls t) (suc i) ts))
      by true r = (λ j m. (stems_from ts (after_kept c s ls t) (suc i) j m).least, r)
      by false r = r

  -- a kept channel's transistor is one of the cell's, and conducts
  pub kept_stems : (k : Channel) → Memᴰ k (kept c s) → Stems s 0 c.transistors k
  unfolding kept
  kept_stems k m = stems_from c.transistors (node_numbers c) 0 k m

  -- the numbers of kept channels rise
  pub kept_rising : Rising (kept c s)
  unfolding kept
  kept_rising = rising_from_lem c.transistors (node_numbers c) 0

-- the transistors of a list are those of other kept channels than k
abbrev pub Others : List Channel → Channel → List Transistor → Type 0
Others ks k ts = (t : Transistor) → Memᴰ t ts → (j : Channel) × Memᴰ j ks × (j.number ≡ k.number → ⊥) × (j.transistor ≡ t)

-- nodes that other channels link lie on one side of a cut
pub linked_side : (c : Circuit) (ks : List Channel) (k : Channel) (cut : Cut c ks k) (ts : List Transistor) → Others ks k ts → {x y : ℕ} → Linked c ts x y → cut.side x ≡ cut.side y
linked_side c ks k cut ts o (linked_same e) = ap cut.side e
linked_side c ks k cut ts o (linked_over {x = x} {y = y} b r) = step ∙ linked_side c ks k cut ts o r
  where
    step : cut.side x ≡ cut.side y
    step =
        let other = o b.transistor b.listed in
        let ends : cut.side b.transistor.first ≡ cut.side b.transistor.second =
        subst (λ (t : Transistor). cut.side t.first ≡ cut.side t.second) other.3
        (cut.same other.0 other.1 (ap (between_inner c) other.3 ∙ b.inner) other.2) in
        ⊎_elim
        (λ (p : (b.transistor.first ≡ x) × (b.transistor.second ≡ y)). ap cut.side (sym p.0) ∙ ends ∙ ap cut.side p.1)
        (λ (p : (b.transistor.first ≡ y) × (b.transistor.second ≡ x)). ap cut.side (sym p.1) ∙ sym ends ∙ ap cut.side p.0)
        b.ends

-- without a kept channel between inner nodes, its ends are not linked by the other kept ones
pub kept_separates : (c : Circuit) (s : State) → AllLegal (length c.nodes) c.transistors
    → (k : Channel) → Memᴰ k (kept c s) → Inner c k → (ts : List Transistor) → Others (kept c s) k ts → Linked c ts k.transistor.first k.transistor.second → ⊥
kept_separates c s h k m i ts o l =
    let cut : Cut c (kept c s) k = kept_forest c s h k m i in
    cut.differs (linked_side c (kept c s) k cut ts o l)
