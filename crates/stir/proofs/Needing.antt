-- What the marked nodes are worked out from, transistor after transistor.
use mathlib.Core.Path.{◌≡◌, sym, ◌∙◌, ap, subst}
use mathlib.Core.Logic.{inl, inr, ⊎_elim}
use mathlib.Core.List.{List}
use mathlib.Core.Bool.{Bool, false, cond}
use Prim.Native.Nat.{ℕ, ◌+◌, ◌≤◌, ◌<◌}
use native.Mathlib.Omega.{arith}
use lib.ListN.{length, get_or, set, length-set}
use lib.Seq.{get_or-set_same, get_or-set_other}
use Rattle.lists.proofs.Cases.{eq_or_ne}
use Rattle.format.specs.declared.Transistor.{Transistor}
use Rattle.net.specs.Net.{at, net_transistor}
use Rattle.stir.specs.Marks.{AtTransistor, end_marked, Needed}
use Rattle.stir.proofs.Marking.{no_mark}

-- a place is marked where a test holds; marks stay
record Marked (test : Bool) (x : ℕ) (old new : List ℕ) : Type 0 where
  pub long : length new ≡ length old
  pub stay : (n : ℕ) → get_or new n 0 ≡ 0 → get_or old n 0 ≡ 0
  pub here : get_or new x 0 ≡ 0 → test ≡ false

marked_here : {test : Bool} {x v : ℕ} {old : List ℕ} → x < length old → v ≡ cond test 1 (get_or old x 0) → Marked test x old (set old x v)
marked_here {test} {x} {v} {old} h is = record {
  long = length-set old x v;
  stay = λ n e.
      ⊎_elim
      (λ (q : n ≡ x). ap (λ (m : ℕ). get_or old m 0) q ∙ (none (ap (λ (m : ℕ). get_or (set old x v) m 0) (sym q) ∙ e)).1)
      (λ (q : n ≡ x → ⊥). sym (get_or-set_other old x n v 0 q) ∙ e)
      (eq_or_ne n x);
  here = λ e. (none e).0;
}
  where
    none : get_or (set old x v) x 0 ≡ 0 → (test ≡ false) × (get_or old x 0 ≡ 0)
    none e = no_mark test (get_or old x 0) (sym is ∙ sym (get_or-set_same old x v 0 h) ∙ e)

-- the first i transistors gone through
pub record Needing (net marks : List ℕ) (i : ℕ) (need : List ℕ) : Type 0 where
  pub long : length need ≡ 26
  pub own : (n : ℕ) → get_or need n 0 ≡ 0 → get_or marks n 0 ≡ 0
  pub supply : get_or need 1 0 ≡ 0 → ⊥
  pub wired : (j x : ℕ) → j < i → AtTransistor (net_transistor net j) x → get_or need x 0 ≡ 0 → end_marked marks (net_transistor net j) ≡ false

pub needing_first : (net marks : List ℕ) → length marks ≡ 26 → Needing net marks 0 (set marks 1 1)
needing_first net marks long = record {
  long = length-set marks 1 1 ∙ long;
  own = λ n e.
      ⊎_elim
      (λ (q : n ≡ 1). absurd (filled (ap (λ (m : ℕ). get_or (set marks 1 1) m 0) (sym q) ∙ e)))
      (λ (q : n ≡ 1 → ⊥). sym (get_or-set_other marks 1 n 1 0 q) ∙ e)
      (eq_or_ne n 1);
  supply = filled;
  wired = λ j x h. absurd (omega arith);
}
  where
    filled : get_or (set marks 1 1) 1 0 ≡ 0 → ⊥
    filled e = let one : get_or (set marks 1 1) 1 0 ≡ 1 = get_or-set_same marks 1 1 0 (omega (arith, long)) in omega (arith, one, e)

-- gate and ends of one more
needing_more : {net marks : List ℕ} {i : ℕ} {a b c d : List ℕ} → Needing net marks i a → {test : Bool} → test ≡ end_marked marks (net_transistor net i)
    → Marked test (net_transistor net i).gate a b → Marked test (net_transistor net i).first b c → Marked test (net_transistor net i).second c d → Needing net marks (i + 1) d
needing_more {net} {marks} {i} {a} {b} {c} {d} s {test} is x y z = record {
  long = z.long ∙ y.long ∙ x.long ∙ s.long;
  own = λ n e. s.own n (back n e);
  supply = λ e. s.supply (back 1 e);
  wired = λ j n h at e.
      ⊎_elim
      (λ (q : j ≡ i).
      ap (λ (m : ℕ). end_marked marks (net_transistor net m)) q ∙ sym is ∙ own n (subst (λ (m : ℕ). AtTransistor (net_transistor net m) n) q at) e)
      (λ (q : j ≡ i → ⊥). s.wired j n (omega (arith, q)) at (back n e))
      (eq_or_ne j i);
}
  where
    back : (n : ℕ) → get_or d n 0 ≡ 0 → get_or a n 0 ≡ 0
    back n e = x.stay n (y.stay n (z.stay n e))

    at_place : (n p : ℕ) → n ≡ p → get_or d n 0 ≡ 0 → get_or d p 0 ≡ 0
    at_place n p q e = ap (λ (m : ℕ). get_or d m 0) (sym q) ∙ e

    own : (n : ℕ) → AtTransistor (net_transistor net i) n → get_or d n 0 ≡ 0 → test ≡ false
    own n (inl q) e = let m : ℕ = (net_transistor net i).gate in x.here (y.stay m (z.stay m (at_place n m q e)))
    own n (inr (inl q)) e = let m : ℕ = (net_transistor net i).first in y.here (z.stay m (at_place n m q e))
    own n (inr (inr q)) e = z.here (at_place n (net_transistor net i).second q e)

-- and as the code sets them
pub needing_next : {net marks : List ℕ} {i : ℕ} {need : List ℕ} → Needing net marks i need → {test : Bool} → test ≡ end_marked marks (net_transistor net i)
    → (net_transistor net i).gate < 26 → (net_transistor net i).first < 26 → (net_transistor net i).second < 26
    → {u : ℕ} → u ≡ cond test 1 (get_or need (net_transistor net i).gate 0)
    → {v : ℕ} → v ≡ cond test 1 (get_or (set need (net_transistor net i).gate u) (net_transistor net i).first 0)
    → {w : ℕ} → w ≡ cond test 1 (get_or (set (set need (net_transistor net i).gate u) (net_transistor net i).first v) (net_transistor net i).second 0)
    → Needing net marks (i + 1) (set (set (set need (net_transistor net i).gate u) (net_transistor net i).first v) (net_transistor net i).second w)
needing_next {net} {marks} {i} {need} s {test} is gate-small first_small second-small {u} at-gate {v} at_first_lem {w} at_second =
    let t : Transistor = net_transistor net i in
    let x : Marked test t.gate need (set need t.gate u) = marked_here (omega (arith, s.long)) at-gate in
    let y : Marked test t.first (set need t.gate u) (set (set need t.gate u) t.first v) = marked_here (omega (arith, x.long, s.long)) at_first_lem in
    let z : Marked test t.second (set (set need t.gate u) t.first v) (set (set (set need t.gate u) t.first v) t.second w) = marked_here (omega (arith, y.long, x.long, s.long)) at_second in
    needing_more s is x y z

pub needing_done : {net marks : List ℕ} {i : ℕ} {need : List ℕ} → Needing net marks i need → at net 1 ≤ i → Needed net marks need
needing_done s le = record {
  long = s.long;
  own = s.own;
  supply = s.supply;
  wired = λ j x h. s.wired j x (omega arith);
}
