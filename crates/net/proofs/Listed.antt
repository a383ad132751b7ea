-- Laws of the listed arms.
use mathlib.Core.Path.{◌≡◌, refl, sym, ◌∙◌, ap}
use mathlib.Core.Logic.{⊎_elim}
use mathlib.Core.Bool.{Bool, true, false, ◌||◌, cond}
use mathlib.Core.List.{List, [], ◌∷◌, ◌++◌, append-nil}
use Prim.Native.Nat.{ℕ, zero, suc, ◌+◌, ◌-◌, ◌*◌, ◌≤◌, ◌<◌}
use native.Mathlib.Numerals.{add-one}
use native.Mathlib.Omega.{arith}
use lib.ListN.{length, get_or, take, drop, set, length-drop}
use lib.Seq.{take-suc, take_all, take-suc-set, take-set-le, drop-set-lt, drop-set-add, length-take-le}
use lib.Dec.{eqb}
use borrow.Author.Tests.{eq-eqb, ne_eqb, eqb-true}
use Rattle.lists.proofs.Cases.{lt_or_ge, eq_or_ne}
use Rattle.format.specs.declared.Transistor.{Transistor}
use Rattle.format.specs.Circuit.{no_transistor}
use Rattle.net.specs.Net.{net_length, at, net_transistor, net_circuit, arms_from, net_arms}
use Rattle.net.specs.Laid.{Within}
use Rattle.net.specs.Written.{OnlyAt, puts, arm_writes, Armed}
use Rattle.net.proofs.Only.{only_none, only_then, puts_away, puts_hit, puts_only, length_puts}
use Rattle.net.proofs.Laying.{transistors_length, transistor_at_lem}

-- transistor i, if the test passes
abbrev one : Bool → ℕ → List ℕ
one b i = cond b (i ∷ []) []

count : Bool → ℕ
count b = cond b 1 0

module _ (net : List ℕ) (long : length net ≡ net_length) (n i : ℕ) (h : n < 26) (room : at net (592 + n) < 64) where
  abbrev next : List ℕ
  next = puts net (arm_writes net n i)

  arm_only : OnlyAt 592 2288 net next
  arm_only = puts_only 592 2288 net (arm_writes net n i) (omega arith)

  own_degree : at next (592 + n) ≡ at net (592 + n) + 1
  own_degree = puts_hit net (arm_writes net n i) 1 (omega arith) (omega arith) (omega arith)

  other_degree : (m : ℕ) → m < 26 → (m ≡ n → ⊥) → at next (592 + m) ≡ at net (592 + m)
  other_degree m l ne = puts_away net (arm_writes net n i) (592 + m) (omega arith)

  -- the node's own list is longer by the arm
  own_arms : net_arms next n ≡ net_arms net n ++ i ∷ []
  own_arms =
      let d : ℕ = at net (592 + n) in
      let inside : List ℕ = set net (624 + 64 * n + d) i in
      let there : drop (624 + 64 * n) next ≡ set (drop (624 + 64 * n) net) d i = drop-set-lt (624 + 64 * n) inside (592 + n) (d + 1) (omega arith) ∙ drop-set-add (624 + 64 * n) net d i in
      rw (own_degree, there, add-one d) (take-suc-set (drop (624 + 64 * n) net) d i (omega (arith, length-drop (624 + 64 * n) net)))

  -- another node's list stays
  other_arms : (m : ℕ) → m < 26 → (m ≡ n → ⊥) → at net (592 + m) ≤ 64 → net_arms next m ≡ net_arms net m
  other_arms m l ne few =
      let d : ℕ = at net (592 + n) in
      let p : ℕ = 624 + 64 * n + d in
      let q : ℕ = 624 + 64 * m in
      let e : drop q next ≡ drop q (set net p i) = drop-set-lt q (set net p i) (592 + n) (d + 1) (omega arith) in
      rw (other_degree m l ne, e)
      (⊎_elim
      (λ (g : n < m). ap (take (at net (592 + m))) (drop-set-lt q net p i (omega arith)))
      (λ (g : m ≤ n).
      let j : p ≡ q + (p - q) = omega arith in
      let far : drop q (set net p i) ≡ set (drop q net) (p - q) i = ap (λ (x : ℕ). drop q (set net x i)) j ∙ drop-set-add q net (p - q) i in
      rw far (take-set-le (at net (592 + m)) (drop q net) (p - q) i (omega arith)))
      (lt_or_ge n m))

  arm_degree : (m : ℕ) → m < 26 → at next (592 + m) ≡ at net (592 + m) + count (eqb n m)
  unfolding count
  arm_degree m l =
      ⊎_elim
      (λ (e : n ≡ m). rw (eq-eqb n m e, ← e) own_degree)
      (λ (e : n ≡ m → ⊥). rw (ne_eqb n m e) (other_degree m l (λ q. e (sym q)) ∙ omega arith))
      (eq_or_ne n m)

  arm_arms : (m : ℕ) → m < 26 → at net (592 + m) ≤ 64 → net_arms next m ≡ net_arms net m ++ one (eqb n m) i
  arm_arms m l few =
      ⊎_elim
      (λ (e : n ≡ m). rw (eq-eqb n m e, ← e) own_arms)
      (λ (e : n ≡ m → ⊥). rw (ne_eqb n m e) (other_arms m l (λ q. e (sym q)) few ∙ sym (append-nil (net_arms net m))))
      (eq_or_ne n m)

-- the arms, one transistor more
arms_snoc : (n i : ℕ) (ts : List Transistor) (t : Transistor) → arms_from n i (ts ++ t ∷ []) ≡ arms_from n i ts ++ one (eqb t.first n || eqb t.second n) (i + length ts)
unfolding arms_from
arms_snoc n i [] t = let e : i + zero ≡ i = omega arith in rw e
arms_snoc n i (u ∷ ts) t =
    let e : i + suc (length ts) ≡ suc i + length ts = omega arith in
    rw (arms_snoc n (suc i) ts t, e) (after (eqb u.first n || eqb u.second n) (arms_from n (suc i) ts) (one (eqb t.first n || eqb t.second n) (suc i + length ts)))
  where
    after : (b : Bool) (xs ys : List ℕ) → cond b (i ∷ (xs ++ ys)) (xs ++ ys) ≡ cond b (i ∷ xs) xs ++ ys
    after true xs ys = refl
    after false xs ys = refl

-- of two tests one at most passes
one_of : (a b : Bool) (xs : List ℕ) (i : ℕ) → (a ≡ true → b ≡ true → ⊥) → (xs ++ one a i) ++ one b i ≡ xs ++ one (a || b) i
one_of true true xs i h = absurd (h refl refl)
one_of true false xs i h = append-nil (xs ++ i ∷ [])
one_of false true xs i h = ap (λ (ys : List ℕ). ys ++ i ∷ []) (append-nil xs)
one_of false false xs i h = append-nil (xs ++ [])

count_of : (a b : Bool) → (a ≡ true → b ≡ true → ⊥) → count a + count b ≤ 1
unfolding count
count_of true true h = absurd (h refl refl)
count_of true false h = omega arith
count_of false true h = omega arith
count_of false false h = omega arith

count_le : (a : Bool) → count a ≤ 1
unfolding count
count_le true = omega arith
count_le false = omega arith

count_none : (a b : ℕ) → (a ≡ b → ⊥) → count (eqb a b) ≡ 0
unfolding count
count_none a b h = rw (ne_eqb a b h)

-- before the first transistor
pub armed_none : (ts : List Transistor) (net : List ℕ) → ((n : ℕ) → n < 26 → at net (592 + n) ≡ 0) → Armed ts 0 net net
unfolding arms_from
armed_none ts net z = record {
  rest = only_none 592 2288 net;
  degree = λ n h. omega (arith, z n h);
  arms = λ n h. rw (z n h);
}

-- the ends of transistor k are nodes a and b
pub record Ends (ts : List Transistor) (k a b : ℕ) : Type 0 where
  pub in_list : k < length ts
  pub few : k < 64
  pub first_in : a < 26
  pub second_in : b < 26
  pub differ : a ≡ b → ⊥
  pub is_first : (get_or ts k no_transistor).first ≡ a
  pub is_second : (get_or ts k no_transistor).second ≡ b

-- as they stand in the column
pub ends_at : (before net : List ℕ) (k : ℕ) → Within before → OnlyAt 592 2288 before net → k < at before 1 → Ends (net_circuit before).transistors k (at net (208 + k)) (at net (272 + k))
ends_at before net k w o h =
    let few : k < 64 = omega (arith, w.transistors) in
    let a : at net (208 + k) ≡ at before (208 + k) = o.below (208 + k) (omega arith) in
    let b : at net (272 + k) ≡ at before (272 + k) = o.below (272 + k) (omega arith) in
    let t = w.transistor k h in
    let ends : get_or (net_circuit before).transistors k no_transistor ≡ net_transistor before k = transistor_at_lem before k h in
    record {
      in_list = omega (arith, transistors_length before);
      few = few;
      first_in = omega (arith, t.first, w.nodes);
      second_in = omega (arith, t.second, w.nodes);
      differ = λ e. t.differ (sym a ∙ e ∙ b);
      is_first = ap (λ (u : Transistor). u.first) ends ∙ sym a;
      is_second = ap (λ (u : Transistor). u.second) ends ∙ sym b;
    }

-- one transistor more, put at its two ends
module _ (ts : List Transistor) (k a b : ℕ) (before net mid next : List ℕ) (long : length net ≡ net_length) (armed : Armed ts k before net) (ends : Ends ts k a b) (mid-is : mid ≡ puts net (arm_writes net a k)) where
  mid_long : length mid ≡ net_length
  mid_long = ap length mid-is ∙ length_puts net (arm_writes net a k) ∙ long

  first_room : at net (592 + a) < 64
  first_room = omega (arith, ends.few, armed.degree a ends.first_in)

  mid_degree : (n : ℕ) → n < 26 → at mid (592 + n) ≡ at net (592 + n) + count (eqb a n)
  mid_degree n h = rw mid-is (arm_degree net long a k ends.first_in first_room n h)

  pub second_room : at mid (592 + b) < 64
  second_room = omega (arith, ends.few, mid_degree b ends.second_in, count_none a b ends.differ, armed.degree b ends.second_in)

  module _ (next_is : next ≡ puts mid (arm_writes mid b k)) where
    next_degree : (n : ℕ) → n < 26 → at next (592 + n) ≡ at mid (592 + n) + count (eqb b n)
    next_degree n h = rw next_is (arm_degree mid mid_long b k ends.second_in second_room n h)

    apart : (n : ℕ) → eqb a n ≡ true → eqb b n ≡ true → ⊥
    apart n p q = ends.differ (eqb-true a n p ∙ sym (eqb-true b n q))

    next_arms : (n : ℕ) → n < 26 → net_arms next n ≡ arms_from n 0 (take (k + 1) ts)
    next_arms n h =
        let t : Transistor = get_or ts k no_transistor in
        let small : at net (592 + n) ≤ 64 = omega (arith, ends.few, armed.degree n h) in
        let mid-small : at mid (592 + n) ≤ 64 = omega (arith, ends.few, mid_degree n h, count_le (eqb a n), armed.degree n h) in
        let p : net_arms mid n ≡ net_arms net n ++ one (eqb a n) k = rw mid-is (arm_arms net long a k ends.first_in first_room n h small) in
        let q : net_arms next n ≡ net_arms mid n ++ one (eqb b n) k = rw next_is (arm_arms mid mid_long b k ends.second_in second_room n h mid-small) in
        let size : 0 + length (take k ts) ≡ k = omega (arith, length-take-le k ts (omega (arith, ends.in_list))) in
        let r : arms_from n 0 (take (k + 1) ts) ≡ arms_from n 0 (take k ts) ++ one (eqb a n || eqb b n) k =
        ap (arms_from n 0) (ap (λ (x : ℕ). take x ts) (add-one k) ∙ take-suc ts k no_transistor ends.in_list) ∙ arms_snoc n 0 (take k ts) t ∙ rw (size, ends.is_first, ends.is_second) refl in
        q ∙ ap (λ (xs : List ℕ). xs ++ one (eqb b n) k) p ∙ one_of (eqb a n) (eqb b n) (net_arms net n) k (apart n) ∙ ap (λ (xs : List ℕ). xs ++ one (eqb a n || eqb b n) k) (armed.arms n h) ∙ sym r

    pub armed_more : Armed ts (k + 1) before next
    armed_more = record {
      rest = only_then {b = net} armed.rest (only_then {b = mid} (rw mid-is (arm_only net long a k ends.first_in first_room)) (rw next_is (arm_only mid mid_long b k ends.second_in second_room)));
      degree = λ n h. omega (arith, next_degree n h, mid_degree n h, count_of (eqb a n) (eqb b n) (apart n), armed.degree n h);
      arms = next_arms;
    }

-- all transistors
pub armed_all : (ts : List Transistor) (k : ℕ) (before net : List ℕ) → length ts ≤ k → Armed ts k before net → (n : ℕ) → n < 26 → net_arms net n ≡ arms_from n 0 ts
armed_all ts k before net h armed n l = armed.arms n l ∙ ap (arms_from n 0) (take_all k ts h)
