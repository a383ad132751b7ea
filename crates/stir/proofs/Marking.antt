-- The marks of groups and of nodes, and the entries that marks leave.
use mathlib.Core.Path.{◌≡◌, refl, sym, ◌∙◌, ap}
use mathlib.Core.Logic.{⊎_elim}
use mathlib.Core.List.{List, [], ◌∷◌}
use mathlib.Core.Bool.{Bool, true, false, ◌&&◌, cond}
use Prim.Native.Nat.{ℕ, zero, suc, ◌+◌, ◌≤◌, ◌<◌}
use native.Mathlib.Omega.{arith}
use lib.ListN.{length, get_or, set, replicate, length-set, length-replicate}
use lib.Seq.{get_or-set_same, get_or-set_other}
use lib.Dec.{eqb}
use borrow.Author.Tests.{eqb-true}
use Rattle.std.proofs.Common.{MatchBool}
use Rattle.std.specs.List.{range_with_len, HoldsAt, AllWithin}
use Rattle.std.proofs.lemmas.List.FromFn.{length-range_with_len, get_or-range_with_len}
use Rattle.lists.proofs.Cases.{bool_cases, eq_or_ne, and_left, and_right, or_left, or_right}
use Rattle.format.specs.declared.Transistor.{Transistor}
use Rattle.format.specs.Circuit.{Circuit, no_transistor}
use Rattle.rules.specs.State.{is_inner}
use Rattle.rules.specs.Label.{label_at, joined, some}
use Rattle.rules.specs.Group.{groups, of_group}
use Rattle.net.specs.Net.{at, net_transistor, net_circuit}
use Rattle.net.proofs.Laying.{transistors_length, transistor_at_lem}
use Rattle.plain.specs.Ready.{Net}
use Rattle.plain.specs.Shown.{disturbed_at}
use Rattle.prepare.specs.Steps.{group_of}
use Rattle.prepare.proofs.Reading.{laid_legal, group_is}
use Rattle.stir.specs.Rest.{stirred_by, stirred_for}
use Rattle.stir.specs.Marks.{GroupMarks, NodeMark, NodeMarks, Masked}

-- a mark stays, and a transistor that stirs sets one
marked_more : (b : Bool) (x : ℕ) → x ≡ 1 → cond b 1 x ≡ 1
marked_more true x e = refl
marked_more false x e = e

-- a test that sets a mark fails where there is none
pub no_mark : (b : Bool) (x : ℕ) → cond b 1 x ≡ 0 → (b ≡ false) × (x ≡ 0)
no_mark true x e = absurd (omega arith)
no_mark false x e = (refl, e)

-- the first i transistors gone through
pub record Marking (net before after : List ℕ) (i : ℕ) (marks : List ℕ) : Type 0 where
  pub long : length marks ≡ 26
  pub stir : (j : ℕ) → j < i → disturbed_at (net_circuit net) before after (net_transistor net j) ≡ true → get_or marks (group_of (net_circuit net) (net_transistor net j)) 0 ≡ 1

pub marking_first : (net before after : List ℕ) → Marking net before after 0 (replicate 26 0)
marking_first net before after = record {
  long = length-replicate {A = ℕ} 26 0;
  stir = λ j h. absurd (omega arith);
}

pub marking_next : {net before after : List ℕ} {i : ℕ} {marks : List ℕ} → Marking net before after i marks
    → {g : ℕ} → g ≡ group_of (net_circuit net) (net_transistor net i) → g < 26 → {b : Bool} → b ≡ disturbed_at (net_circuit net) before after (net_transistor net i)
    → {v : ℕ} → v ≡ cond b 1 (get_or marks g 0) → Marking net before after (i + 1) (set marks g v)
marking_next {net} {before} {after} {i} {marks} s {g} group small {b} test {v} is = record {
  long = length-set marks g v ∙ s.long;
  stir = λ j h d.
      let own : ℕ = group_of (net_circuit net) (net_transistor net j) in
      let here : get_or (set marks g v) g 0 ≡ v = get_or-set_same marks g v 0 (omega (arith, s.long)) in
      ⊎_elim
      (λ (e : j ≡ i).
      let same : own ≡ g = ap (λ (m : ℕ). group_of (net_circuit net) (net_transistor net m)) e ∙ sym group in
      let stirs : b ≡ true = test ∙ ap (λ (m : ℕ). disturbed_at (net_circuit net) before after (net_transistor net m)) (sym e) ∙ d in
      ap (λ (m : ℕ). get_or (set marks g v) m 0) same ∙ here ∙ is ∙ ap (λ (z : Bool). cond z 1 (get_or marks g 0)) stirs)
      (λ (ne : j ≡ i → ⊥).
      let old : get_or marks own 0 ≡ 1 = s.stir j (omega (arith, ne)) d in
      ⊎_elim
      (λ (same : own ≡ g).
      ap (λ (m : ℕ). get_or (set marks g v) m 0) same ∙ here ∙ is ∙ marked_more b (get_or marks g 0) (ap (λ (m : ℕ). get_or marks m 0) (sym same) ∙ old))
      (λ (other : own ≡ g → ⊥). get_or-set_other marks g own v 0 other ∙ old)
      (eq_or_ne own g))
      (eq_or_ne j i);
}

pub marking_done : {net before after : List ℕ} {i : ℕ} {marks : List ℕ} → Marking net before after i marks → at net 1 ≤ i → GroupMarks net before after marks
marking_done s le = record {
  long = s.long;
  stir = λ j h. s.stir j (omega arith);
}

-- the first i nodes gone through
pub record Naming (net groups : List ℕ) (all : Bool) (i : ℕ) (marks : List ℕ) : Type 0 where
  pub long : length marks ≡ 26
  pub mark : (n : ℕ) → n < i → NodeMark net groups all n (get_or marks n 0)

pub naming_first : (net groups : List ℕ) (all : Bool) → Naming net groups all 0 (replicate 26 0)
naming_first net groups all = record {
  long = length-replicate {A = ℕ} 26 0;
  mark = λ n h. absurd (omega arith);
}

pub naming_next : {net groups : List ℕ} {all : Bool} {i : ℕ} {marks : List ℕ} → Naming net groups all i marks → i < 26 → {v : ℕ} → NodeMark net groups all i v
    → Naming net groups all (i + 1) (set marks i v)
naming_next {net} {groups} {all} {i} {marks} s lt {v} own = record {
  long = length-set marks i v ∙ s.long;
  mark = λ n h.
      ⊎_elim
      (λ (e : n ≡ i). rw (e, get_or-set_same marks i v 0 (omega (arith, s.long))) own)
      (λ (ne : n ≡ i → ⊥). rw (get_or-set_other marks i n v 0 ne) (s.mark n (omega (arith, ne))))
      (eq_or_ne n i);
}

-- no test holds
some_nowhere : (f : Transistor → Bool) (ts : List Transistor) → ((i : ℕ) → i < length ts → f (get_or ts i no_transistor) ≡ false) → some f ts ≡ false
unfolding some
some_nowhere f [] h = refl
some_nowhere f (t ∷ ts) h = rw (h zero (omega arith)) (some_nowhere f ts (λ i l. h (suc i) (omega arith)))

-- some test holds
some_somewhere : (f : Transistor → Bool) (ts : List Transistor) (i : ℕ) → i < length ts → f (get_or ts i no_transistor) ≡ true → some f ts ≡ true
unfolding some
some_somewhere f [] i h e = absurd (omega (arith, h))
some_somewhere f (t ∷ ts) zero h e = or_left (f t) (some f ts) e
some_somewhere f (t ∷ ts) (suc i) h e = or_right (f t) (some f ts) (some_somewhere f ts i (omega arith) e)

-- what is asked of the numbers of the transistors is asked of them
module _ (net before after : List ℕ) where
  abbrev pub stirs : Bool → ℕ → Type 0
  stirs b i = disturbed_at (net_circuit net) before after (net_transistor net i) ≡ b

  abbrev pub numbers : List ℕ
  numbers = range_with_len 0 (at net 1)

  numbers_at : (i d : ℕ) → i < at net 1 → get_or numbers i d ≡ i
  numbers_at i d h = get_or-range_with_len 0 (at net 1) i d h ∙ omega arith

  at_number : (b : Bool) (i d : ℕ) → i < at net 1 → stirs b (get_or numbers i d) → disturbed_at (net_circuit net) before after (get_or (net_circuit net).transistors i no_transistor) ≡ b
  at_number b i d h e = ap (disturbed_at (net_circuit net) before after) (transistor_at_lem net i h) ∙ ap (λ (m : ℕ). disturbed_at (net_circuit net) before after (net_transistor net m)) (sym (numbers_at i d h)) ∙ e

  pub stirred_any : (r : Bool) → MatchBool r ((k : ℕ) × (k < length numbers) × HoldsAt (stirs true) numbers k) (AllWithin (stirs false) numbers 0 (length numbers)) → r ≡ stirred_by (net_circuit net) before after
  stirred_any true h =
      let below : h.0 < at net 1 = omega (arith, h.1, length-range_with_len 0 (at net 1)) in
      sym (some_somewhere (disturbed_at (net_circuit net) before after) (net_circuit net).transistors h.0 (omega (arith, below, transistors_length net)) (at_number true h.0 0 below (h.2 0)))
  stirred_any false h =
      sym (some_nowhere (disturbed_at (net_circuit net) before after) (net_circuit net).transistors
      (λ i l.
      let below : i < at net 1 = omega (arith, transistors_length net) in
      at_number false i 0 below (h i 0 (omega arith) (omega (arith, below, length-range_with_len 0 (at net 1))))))

both_false : (a b : Bool) → (b ≡ true → a ≡ false) → (a && b) ≡ false
both_false true true f = f refl
both_false true false f = refl
both_false false b f = refl

-- a node whose group has no mark is stirred by nothing
unstirred : {net before after marks : List ℕ} → Net net → GroupMarks net before after marks → (n : ℕ) → get_or marks (label_at (groups (net_circuit net)) n) 0 ≡ 0 → stirred_for (net_circuit net) before after n ≡ false
unstirred {net} {before} {after} {marks} cell s n none =
    let c : Circuit = net_circuit net in
    some_nowhere (λ (t : Transistor). of_group c n t && disturbed_at c before after t) c.transistors
    (λ i h.
    let l : i < at net 1 = omega (arith, transistors_length net) in
    rw (transistor_at_lem net i l)
    (both_false (of_group c n (net_transistor net i)) (disturbed_at c before after (net_transistor net i))
    (λ d.
    ⊎_elim
    (λ (of : of_group c n (net_transistor net i) ≡ true).
    let same : label_at (groups c) n ≡ group_of c (net_transistor net i) =
    group_is c (laid_legal net cell) i h n (rw (transistor_at_lem net i l) of) ∙ ap (group_of c) (transistor_at_lem net i l) in
    let zero_one : 0 ≡ 1 = sym none ∙ ap (λ (m : ℕ). get_or marks m 0) same ∙ s.stir i l d in
    absurd (omega arith))
    (λ (of : of_group c n (net_transistor net i) ≡ false). of)
    (bool_cases (of_group c n (net_transistor net i))))))

pub naming_done : {net before after groups marks : List ℕ} {all : Bool} {i : ℕ} → Net net → GroupMarks net before after groups → Naming net groups all i marks → 2 + at net 0 ≤ i → NodeMarks net before after all marks
naming_done {net} {groups = names} {marks} {all} cell g s le =
    let c : Circuit = net_circuit net in
    record {
      long = s.long;
      rest = λ n node inner e.
          let z = no_mark all (get_or names (label_at (groups c) n) 0) (sym (s.mark n (omega (arith, node.most)) inner) ∙ e) in
          (z.0, unstirred cell g n z.1);
      together = λ n m node other inner e.
          let same : label_at (groups c) n ≡ label_at (groups c) m = eqb-true (label_at (groups c) n) (label_at (groups c) m) (and_right (is_inner c m) (joined (groups c) n m) e) in
          s.mark m (omega (arith, other.most)) (and_left (is_inner c m) (joined (groups c) n m) e)
          ∙ ap (λ (l : ℕ). cond all 1 (get_or names l 0)) (sym same)
          ∙ sym (s.mark n (omega (arith, node.most)) inner);
    }

-- the entries of the first i nodes
pub record Masking (marks entries : List ℕ) (i : ℕ) (masked : List ℕ) : Type 0 where
  pub long : length masked ≡ 26
  pub is : (n : ℕ) → n < i → get_or masked n 0 ≡ cond (eqb (get_or marks n 0) 0) 0 (get_or entries n 0)

pub masking_first : (marks entries : List ℕ) → Masking marks entries 0 (replicate 26 0)
masking_first marks entries = record {
  long = length-replicate {A = ℕ} 26 0;
  is = λ n h. absurd (omega arith);
}

pub masking_next : {marks entries : List ℕ} {i : ℕ} {masked : List ℕ} → Masking marks entries i masked → i < 26 → {v : ℕ} → v ≡ cond (eqb (get_or marks i 0) 0) 0 (get_or entries i 0)
    → Masking marks entries (i + 1) (set masked i v)
masking_next {marks} {entries} {i} {masked} s lt {v} own = record {
  long = length-set masked i v ∙ s.long;
  is = λ n h.
      ⊎_elim
      (λ (e : n ≡ i). rw e (get_or-set_same masked i v 0 (omega (arith, s.long)) ∙ own))
      (λ (ne : n ≡ i → ⊥). get_or-set_other masked i n v 0 ne ∙ s.is n (omega (arith, ne)))
      (eq_or_ne n i);
}

pub masking_done : {marks entries : List ℕ} {i : ℕ} {masked : List ℕ} → Masking marks entries i masked → 26 ≤ i → Masked marks entries masked
masking_done s le = record {
  long = s.long;
  is = λ n h. s.is n (omega arith);
}
