-- The search for a piece: what is found stays found, and there is always room for a node that is not.
use mathlib.Core.Path.{◌≡◌, refl, sym, ◌∙◌, ap, subst}
use mathlib.Core.Logic.{inl, inr, ⊎_elim}
use mathlib.Core.List.{List}
use mathlib.Core.Bool.{Bool, true, false, not, cond}
use Prim.Native.Nat.{ℕ, zero, suc, ◌+◌, ◌<◌, ◌≤◌}
use native.Mathlib.Omega.{arith}
use lib.ListN.{get_or, set, replicate, length-set, get_or-replicate, get_or-eq_default}
use lib.Seq.{get_or-set_same, get_or-set_other}
use lib.Dec.{eqb}
use Rattle.lists.specs.Tests.{count_below}
use Rattle.lists.proofs.Cases.{bool_cases, lt_or_ge, eq_or_ne, true_false}
use Rattle.lists.proofs.Count.{count_ext, count_le, count_none}
use Rattle.rules.specs.State.{is_driven}
use Rattle.rules.specs.Sum.{far_end}
use Rattle.rules.proofs.Label.{Joined, joined_refl, joined_trans}
use Rattle.net.specs.Net.{nodes_place, transistors_place, at, net_transistor, net_circuit, net_arms}
use Rattle.plain.specs.Leaf.{net_channel}
use Rattle.net.specs.Laid.{TransistorWithin}
use Rattle.plain.specs.Ready.{Net}
use Rattle.descent.specs.Descend.{Inner}
use Rattle.descent.specs.Settle.{is_off, parts}
use Rattle.descent.specs.Piece.{marks_length, is_in, is_near, Beside, Crossed, AllCrossed, Found, Searched, Within, StaysIn, is_end_of, Piece}
use Rattle.descent.proofs.Reaching.{crossed_joined}

-- where one number does not pass, not all are counted
count_missing : (n : ℕ) (f : ℕ → Bool) (i : ℕ) → i < n → f i ≡ false → count_below n f < n
unfolding count_below
count_missing zero f i h e = absurd (omega arith)
count_missing (suc n) f i h e =
    ⊎_elim
    (λ (g : i < n). omega (arith, count_missing n f i g e, one (f n)))
    (λ (g : n ≤ i). let q : n ≡ i = omega arith in let z : f n ≡ false = ap f q ∙ e in rw z (omega (arith, count_le n f)))
    (lt_or_ge i n)
  where
    one : (b : Bool) → cond b 1 0 ≤ 1
    one true = omega arith
    one false = omega arith

-- one more that passes is counted once more
count_more : (n : ℕ) (f g : ℕ → Bool) (i : ℕ) → i < n → f i ≡ false → g i ≡ true → ((j : ℕ) → (j ≡ i → ⊥) → f j ≡ g j) → count_below n g ≡ count_below n f + 1
unfolding count_below
count_more zero f g i h a b same = absurd (omega arith)
count_more (suc n) f g i h a b same =
    ⊎_elim
    (λ (l : i < n). let z : g n ≡ f n = sym (same n (λ q. omega arith)) in rw (count_more n f g i l a b same, z) (omega arith))
    (λ (l : n ≤ i).
    let q : n ≡ i = omega arith in
    let x : f n ≡ false = ap f q ∙ a in
    let y : g n ≡ true = ap g q ∙ b in
    rw (x, y, count_ext n g f (λ j k. sym (same j (λ e. omega arith)))) (omega arith))
    (lt_or_ge i n)

module _ {net marks list : List ℕ} {count : ℕ} (h : Found net marks list count) where
  -- there is room for a node that was not found
  pub found_room : (y : ℕ) → y < marks_length → is_in marks y ≡ false → count < marks_length
  found_room y small out = omega (arith, h.counted, count_missing 26 (is_in marks) y small out)

  -- nothing new
  pub searched_same : Searched net marks list count marks list count
  searched_same = record { found = h; grew = record { inside = λ m e. e; near = λ m e. e; same = λ j _. refl; longer = omega arith } }

  module _ (y : ℕ) (small : y < marks_length) where
    set_same : (v : ℕ) → get_or (set marks y v) y 0 ≡ v
    set_same v = get_or-set_same marks y v 0 (omega (arith, h.marks_long))

    set_other : (v m : ℕ) → (m ≡ y → ⊥) → get_or (set marks y v) m 0 ≡ get_or marks m 0
    set_other v m n = get_or-set_other marks y m v 0 n

    module _ (driven : is_driven (net_circuit net) y ≡ true) where
      -- a driven end is not in the piece
      out_of : is_in marks y ≡ false
      out_of = ⊎_elim (λ (e : is_in marks y ≡ true). true_false (is_driven (net_circuit net) y) driven (h.inner y e)) (λ (e : is_in marks y ≡ false). e) (bool_cases (is_in marks y))

      pub in_same : (m : ℕ) → is_in (set marks y 2) m ≡ is_in marks m
      in_same m =
          ⊎_elim
          (λ (q : m ≡ y). rw q (ap (λ (v : ℕ). eqb v 1) (set_same 2) ∙ sym out_of))
          (λ (q : m ≡ y → ⊥). ap (λ (v : ℕ). eqb v 1) (set_other 2 m q))
          (eq_or_ne m y)

      -- a driven end marked
      pub searched_driven : Searched net marks list count (set marks y 2) list count
      searched_driven = record {
        found = record {
          marks_long = length-set marks y 2 ∙ h.marks_long;
          found_long = h.found_long;
          counted = h.counted ∙ count_ext 26 (is_in marks) (is_in (set marks y 2)) (λ i _. sym (in_same i));
          inner = λ m e. h.inner m (sym (in_same m) ∙ e);
          small = λ m e. h.small m (sym (in_same m) ∙ e);
          listed = λ m e. h.listed m (sym (in_same m) ∙ e);
          marked = λ j l. in_same (get_or list j 0) ∙ h.marked j l;
        };
        grew = record {
          inside = λ m e. in_same m ∙ e;
          near = λ m e.
              ⊎_elim
              (λ (q : m ≡ y). rw q (ap (λ (v : ℕ). not (eqb v 0)) (set_same 2)))
              (λ (q : m ≡ y → ⊥). ap (λ (v : ℕ). not (eqb v 0)) (set_other 2 m q) ∙ e)
              (eq_or_ne m y);
          same = λ j _. refl;
          longer = omega arith;
        };
      }

      -- it is beside the piece
      pub driven_near : is_near (set marks y 2) y ≡ true
      driven_near = ap (λ (v : ℕ). not (eqb v 0)) (set_same 2)

    module _ (own : is_driven (net_circuit net) y ≡ false) (node : y < 2 + at net nodes_place) (out : is_in marks y ≡ false) where
      now_in : is_in (set marks y 1) y ≡ true
      now_in = ap (λ (v : ℕ). eqb v 1) (set_same 1)

      in_other : (m : ℕ) → (m ≡ y → ⊥) → is_in (set marks y 1) m ≡ is_in marks m
      in_other m n = ap (λ (v : ℕ). eqb v 1) (set_other 1 m n)

      -- what holds of the nodes found so far and of the new one
      pub each : (P : ℕ → Type 0) → P y → ((m : ℕ) → is_in marks m ≡ true → P m) → (m : ℕ) → is_in (set marks y 1) m ≡ true → P m
      each P new old m e =
          ⊎_elim
          (λ (q : m ≡ y). subst P (sym q) new)
          (λ (q : m ≡ y → ⊥). old m (sym (in_other m q) ∙ e))
          (eq_or_ne m y)

      list_other : (j : ℕ) → j < count → get_or (set list count y) j 0 ≡ get_or list j 0
      list_other j l = get_or-set_other list count j y 0 (λ q. omega arith)

      list_last : get_or (set list count y) count 0 ≡ y
      list_last = get_or-set_same list count y 0 (omega (arith, h.found_long, found_room y small out))

      -- an inner node found
      pub searched_new : Searched net marks list count (set marks y 1) (set list count y) (count + 1)
      searched_new = record {
        found = record {
          marks_long = length-set marks y 1 ∙ h.marks_long;
          found_long = length-set list count y ∙ h.found_long;
          counted = ap (λ (k : ℕ). k + 1) h.counted ∙ sym (count_more 26 (is_in marks) (is_in (set marks y 1)) y small out now_in (λ j n. sym (in_other j n)));
          inner = each (λ (m : ℕ). is_driven (net_circuit net) m ≡ false) own h.inner;
          small = each (λ (m : ℕ). m < 2 + at net nodes_place) node h.small;
          listed = each (λ (m : ℕ). (j : ℕ) × (j < count + 1) × (get_or (set list count y) j 0 ≡ m)) (count, omega arith, list_last)
              (λ m e. let old = h.listed m e in (old.0, omega (arith, old.1), list_other old.0 old.1 ∙ old.2));
          marked = λ j l.
              ⊎_elim
              (λ (g : j < count).
              let was : is_in marks (get_or list j 0) ≡ true = h.marked j g in
              rw (list_other j g)
              (⊎_elim
              (λ (q : get_or list j 0 ≡ y). rw q now_in)
              (λ (q : get_or list j 0 ≡ y → ⊥). in_other (get_or list j 0) q ∙ was)
              (eq_or_ne (get_or list j 0) y)))
              (λ (g : count ≤ j). let q : j ≡ count = omega arith in rw (q, list_last) now_in)
              (lt_or_ge j count);
        };
        grew = record {
          inside = λ m e. ⊎_elim (λ (q : m ≡ y). rw q now_in) (λ (q : m ≡ y → ⊥). in_other m q ∙ e) (eq_or_ne m y);
          near = λ m e.
              ⊎_elim
              (λ (q : m ≡ y). rw q (ap (λ (v : ℕ). not (eqb v 0)) (set_same 1)))
              (λ (q : m ≡ y → ⊥). ap (λ (v : ℕ). not (eqb v 0)) (set_other 1 m q) ∙ e)
              (eq_or_ne m y);
          same = list_other;
          longer = omega arith;
        };
      }

    -- noting an inner node, found before or not
    module _ (own : is_driven (net_circuit net) y ≡ false) (node : y < 2 + at net nodes_place) {marks' list' : List ℕ} {count' : ℕ}
        (ec : count' ≡ cond (is_in marks y) count (count + 1)) (em : marks' ≡ cond (is_in marks y) marks (set marks y 1)) (el : list' ≡ cond (is_in marks y) list (set list count y)) where
      pub searched_note : Searched net marks list count marks' list' count' × (is_in marks' y ≡ true)
      searched_note =
          rw (ec, em, el)
          (⊎_elim
          (λ (e : is_in marks y ≡ true). rw e (searched_same, e))
          (λ (e : is_in marks y ≡ false). rw e (searched_new own node e, now_in own node e))
          (bool_cases (is_in marks y)))

-- crossing transistor i from node x of the piece to node y
module _ {net marks list : List ℕ} {count : ℕ} (cell : Net net) (h : Found net marks list count) (roots : List ℕ) (x i y : ℕ)
    (few : (i < at net transistors_place) × (is_end_of net i x ≡ true) × (is_in marks x ≡ true)) (is : y ≡ far_end x (net_channel net i)) where
  pub far_small : y < 2 + at net nodes_place
  far_small =
      let placed : TransistorWithin (at net nodes_place) (net_transistor net i) = cell.within.transistor i few.0 in
      rw is (by (eqb (net_transistor net i).first x) placed.first placed.second)
    where
      by : (b : Bool) {m n k : ℕ} → m < k → n < k → cond b n m < k
      by true f s = s
      by false f s = f

  pub far_marked : y < marks_length
  far_marked = omega (arith, far_small, cell.within.nodes)

  pub cross_room : is_in marks y ≡ false → count < marks_length
  cross_room = found_room h y far_marked

  -- a driven end is marked
  pub cross_driven : is_driven (net_circuit net) y ≡ true → Searched net marks list count (set marks y 2) list count × (Crossed net roots (set marks y 2) x i × StaysIn net roots marks (set marks y 2))
  cross_driven d = (
    searched_driven h y far_marked d,
    (λ on. subst (Beside (net_circuit net) (set marks y 2)) is (inr (d, driven_near h y far_marked d)), λ n w m e. w m (sym (in_same h y far_marked d m) ∙ e)),
  )

  -- an inner node is found
  pub cross_noted : is_off roots i ≡ false → is_driven (net_circuit net) y ≡ false → {marks' list' : List ℕ} {count' : ℕ}
      → count' ≡ cond (is_in marks y) count (count + 1) → marks' ≡ cond (is_in marks y) marks (set marks y 1) → list' ≡ cond (is_in marks y) list (set list count y)
      → Searched net marks list count marks' list' count' × (Crossed net roots marks' x i × StaysIn net roots marks marks')
  cross_noted off d {marks'} ec em el =
      let noted = searched_note h y far_marked d far_small ec em el in
      (noted.0, (λ on. subst (Beside (net_circuit net) marks') is (inl noted.1), λ n w. subst (Within net roots n) (sym em) (stays n w)))
    where
      -- the new node is joined to x, and x is of the piece
      beside : Joined (parts (net_circuit net) roots) x y
      beside = subst (Joined (parts (net_circuit net) roots) x) (sym is) (crossed_joined cell roots x i few.0 few.1 off (h.inner x few.2) (subst (λ (z : ℕ). is_driven (net_circuit net) z ≡ false) is d))

      stays : (n : ℕ) → Within net roots n marks → Within net roots n (cond (is_in marks y) marks (set marks y 1))
      stays n w =
          ⊎_elim
          (λ (e : is_in marks y ≡ true). rw e w)
          (λ (e : is_in marks y ≡ false).
          rw e (each h y far_marked d far_small e (λ (m : ℕ). Joined (parts (net_circuit net) roots) n m) (joined_trans (parts (net_circuit net) roots) n x y (w x few.2) beside) w))
          (bool_cases (is_in marks y))

-- a search goes on from another
pub searched_trans : {net m₁ l₁ m₂ l₂ m₃ l₃ : List ℕ} {c₁ c₂ c₃ : ℕ} → Searched net m₁ l₁ c₁ m₂ l₂ c₂ → Searched net m₂ l₂ c₂ m₃ l₃ c₃ → Searched net m₁ l₁ c₁ m₃ l₃ c₃
searched_trans a b = record {
  found = b.found;
  grew = record {
    inside = λ m e. b.grew.inside m (a.grew.inside m e);
    near = λ m e. b.grew.near m (a.grew.near m e);
    same = λ j l. b.grew.same j (omega (arith, a.grew.longer)) ∙ a.grew.same j l;
    longer = omega (arith, a.grew.longer, b.grew.longer);
  };
}

module _ {net marks list : List ℕ} {count : ℕ} {marks' list' : List ℕ} {count' : ℕ} (g : Searched net marks list count marks' list' count') (roots : List ℕ) where
  -- what was crossed stays so
  pub crossed_stays : (x i : ℕ) → Crossed net roots marks x i → Crossed net roots marks' x i
  crossed_stays x i c on =
      ⊎_elim
      (λ (e : is_in marks (far_end x (net_channel net i)) ≡ true). inl (g.grew.inside _ e))
      (λ (d : (is_driven (net_circuit net) (far_end x (net_channel net i)) ≡ true) × (is_near marks (far_end x (net_channel net i)) ≡ true)). inr (d.0, g.grew.near _ d.1))
      (c on)

  -- with one arm more
  pub crossed_more : (x k i : ℕ) → ((j : ℕ) → j < k → Crossed net roots marks x (get_or (net_arms net x) j 0)) → i ≡ get_or (net_arms net x) k 0 → Crossed net roots marks' x i
      → (j : ℕ) → j < k + 1 → Crossed net roots marks' x (get_or (net_arms net x) j 0)
  crossed_more x k i before is now j l =
      ⊎_elim
      (λ (b : j < k). crossed_stays x (get_or (net_arms net x) j 0) (before j b))
      (λ (b : k ≤ j). let q : j ≡ k = omega arith in subst (λ (a : ℕ). Crossed net roots marks' x a) (is ∙ ap (λ (a : ℕ). get_or (net_arms net x) a 0) (sym q)) now)
      (lt_or_ge j k)

-- the piece so far: the first `head` nodes found have all arms crossed
pub record Spread (net roots : List ℕ) (n : ℕ) (head : ℕ) (marks list : List ℕ) (count : ℕ) : Type 0 where
  pub found : Found net marks list count
  pub own : is_in marks n ≡ true
  pub within : head ≤ count
  pub done : (j : ℕ) → j < head → AllCrossed net roots marks (get_or list j 0)
  pub reached : Within net roots n marks

-- one node more
pub spread_next : {net roots marks list marks' list' : List ℕ} {n head count count' : ℕ} → Spread net roots n head marks list count → head < count
    → Searched net marks list count marks' list' count' → AllCrossed net roots marks' (get_or list head 0) × StaysIn net roots marks marks' → Spread net roots n (head + 1) marks' list' count'
spread_next {net} {roots} {marks} {list} {marks'} {list'} {n} {head} {count} {count'} s more g a = record {
  found = g.found;
  own = g.grew.inside n s.own;
  within = omega (arith, g.grew.longer);
  done = λ j l.
      rw (g.grew.same j (omega (arith, s.within)))
      (⊎_elim
      (λ (b : j < head). λ k q. crossed_stays g roots (get_or list j 0) (get_or (net_arms net (get_or list j 0)) k 0) (s.done j b k q))
      (λ (b : head ≤ j). let q : j ≡ head = omega arith in rw q a.0)
      (lt_or_ge j head));
  reached = a.1 n s.reached;
}

-- all nodes: the piece is closed
pub spread_all : {net roots marks list : List ℕ} {n head count : ℕ} → Spread net roots n head marks list count → count ≤ head → Piece net roots n marks
spread_all {net} {roots} {marks} {list} {n} {head} {count} s all = record {
  long = s.found.marks_long;
  own = s.own;
  inner = s.found.inner;
  small = s.found.small;
  closed = λ m e. let at = s.found.listed m e in subst (AllCrossed net roots marks) at.2 (s.done at.0 (omega (arith, at.1)));
  within = s.reached;
}

none : (m : ℕ) → is_in (replicate 26 0) m ≡ false
none m =
    ⊎_elim
    (λ (h : m < 26). ap (λ (v : ℕ). eqb v 1) (get_or-replicate 26 m 0 0 h))
    (λ (h : 26 ≤ m). ap (λ (v : ℕ). eqb v 1) (get_or-eq_default (replicate 26 0) 0 h))
    (lt_or_ge m 26)

-- no node is found at first
pub found_none : (net : List ℕ) (marks list : List ℕ) → marks ≡ replicate 26 0 → list ≡ replicate 26 0 → Found net marks list 0
found_none net marks list em el =
    rw (em, el)
    (record {
      marks_long = refl;
      found_long = refl;
      counted = sym (count_none 26 (is_in (replicate 26 0)) (λ i _. none i));
      inner = λ m e. true_false (is_in (replicate 26 0) m) e (none m);
      small = λ m e. true_false (is_in (replicate 26 0) m) e (none m);
      listed = λ m e. true_false (is_in (replicate 26 0) m) e (none m);
      marked = λ j l. absurd (omega arith);
    })

-- no more nodes are found than there are marks
pub found_few : {net marks list : List ℕ} {count : ℕ} → Found net marks list count → count ≤ 26
found_few {net} {marks} h = omega (arith, h.counted, count_le 26 (is_in marks))

-- the search begins with node n
pub spread_first : {net : List ℕ} (roots : List ℕ) {n : ℕ} → Inner net n → {marks list : List ℕ} {count : ℕ}
    → count ≡ cond (is_in (replicate 26 0) n) 0 (0 + 1) → marks ≡ cond (is_in (replicate 26 0) n) (replicate 26 0) (set (replicate 26 0) n 1) → list ≡ cond (is_in (replicate 26 0) n) (replicate 26 0) (set (replicate 26 0) 0 n)
    → Spread net roots n 0 marks list count
spread_first {net} roots {n} i ec em el =
    let noted = searched_note (found_none net (replicate 26 0) (replicate 26 0) refl refl) n (omega (arith, i.node.most, i.cell.within.nodes)) i.inner i.node.most ec em el in
    record {
      found = noted.0.found;
      own = noted.1;
      within = omega arith;
      done = λ j h. absurd (omega arith);
      reached = subst (Within net roots n) (sym em)
          (rw (none n)
          (each (found_none net (replicate 26 0) (replicate 26 0) refl refl) n (omega (arith, i.node.most, i.cell.within.nodes)) i.inner i.node.most (none n)
          (λ (m : ℕ). Joined (parts (net_circuit net) roots) n m) (joined_refl (parts (net_circuit net) roots) n) (λ m e. true_false (is_in (replicate 26 0) m) e (none m))));
    }
