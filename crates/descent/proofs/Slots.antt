-- The slots of a memo: freeing all, and replacing the roots of one.
use mathlib.Core.Path.{◌≡◌, sym, ◌∙◌, ap}
use mathlib.Core.Logic.{⊎_elim}
use mathlib.Core.List.{List, ◌++◌}
use Prim.Native.Nat.{ℕ, suc, ◌+◌, ◌-◌, ◌*◌, ◌<◌, ◌≤◌}
use native.Mathlib.Omega.{arith}
use lib.ListN.{length, get_or, set, take, drop, replicate, length-set, length-take, length-drop, length-append, length-replicate, get_or-replicate}
use lib.Seq.{get_or-take, get_or-drop, get_or-set_same, get_or-set_other, ext_get_or, length-take-le}
use Rattle.std.proofs.lemmas.List.{get_or_append_left, get_or-append_right}
use Rattle.lists.proofs.Cases.{lt_or_ge}
use Rattle.net.specs.Roots.{roots_length}
use Rattle.descent.specs.Memo.{slots, memo_length, slot_roots, Remembered}

-- the place of root i of slot s
abbrev pub place : ℕ → ℕ → ℕ
place s i = slots + roots_length * s + i

-- zeros before what follows the slots
pub freed : (memo zeros : List ℕ) → memo_length ≤ length memo → zeros ≡ replicate (length (take slots memo)) 0 → (s : ℕ) → s < slots → get_or (zeros ++ drop slots memo) s 0 ≡ 0
freed memo zeros enough e s h =
    let n : length (take slots memo) ≡ slots = length-take-le slots memo (omega arith) in
    rw e
    (get_or_append_left (replicate (length (take slots memo)) 0) (drop slots memo) 0 s (rw length-replicate (omega arith))
    ∙ get_or-replicate (length (take slots memo)) s 0 0 (omega arith))

-- the roots of a slot, place by place
pub slot_at : (memo : List ℕ) (s i : ℕ) → i < roots_length → get_or (slot_roots memo s) i 0 ≡ get_or memo (place s i) 0
slot_at memo s i h = get_or-take roots_length (drop (slots + roots_length * s) memo) i 0 h ∙ get_or-drop (slots + roots_length * s) memo i 0

-- as many as a node has
pub slot_length : (memo : List ℕ) (s : ℕ) → memo_length ≤ length memo → s < slots → length (slot_roots memo s) ≡ roots_length
slot_length memo s long small =
    let d : length (drop (slots + roots_length * s) memo) ≡ length memo - (slots + roots_length * s) = length-drop (slots + roots_length * s) memo in
    simp length-take (omega arith)

-- the roots of a slot are those that stand in its places
pub slot_is : (memo : List ℕ) (s : ℕ) (roots : List ℕ) → memo_length ≤ length memo → s < slots → length roots ≡ roots_length
    → ((i : ℕ) → i < roots_length → get_or memo (place s i) 0 ≡ get_or roots i 0) → slot_roots memo s ≡ roots
slot_is memo s roots long small lr is =
    let n : length (slot_roots memo s) ≡ roots_length = slot_length memo s long small in
    ext_get_or 0 (slot_roots memo s) roots (n ∙ sym lr) (λ i h. slot_at memo s i (omega arith) ∙ is i (omega arith))

-- the place of a slot's first root
abbrev first : ℕ → ℕ
first s = slots + roots_length * s

-- the roots of a slot were replaced, and then its word
module _ (memo : List ℕ) (slot : ℕ) (roots out : List ℕ) (long : memo_length ≤ length memo) (small : slot < slots) (lr : length roots ≡ roots_length)
    (o : out ≡ take (first slot) memo ++ (roots ++ drop (first slot + roots_length) memo)) where
  front : length (take (first slot) memo) ≡ first slot
  front = length-take-le (first slot) memo (omega arith)

  same_long : length out ≡ length memo
  same_long = rw (o, length-append (take (first slot) memo) (roots ++ drop (first slot + roots_length) memo), length-append roots (drop (first slot + roots_length) memo), length-drop (first slot + roots_length) memo, front, lr) (omega arith)

  replaced : (j : ℕ) → j < roots_length → get_or out (place slot j) 0 ≡ get_or roots j 0
  replaced j h =
      let q : place slot j - first slot ≡ j = omega arith in
      ap (λ (xs : List ℕ). get_or xs (place slot j) 0) o
      ∙ get_or-append_right (take (first slot) memo) (roots ++ drop (first slot + roots_length) memo) (first slot) (place slot j) 0 front (omega arith)
      ∙ ap (λ (n : ℕ). get_or (roots ++ drop (first slot + roots_length) memo) n 0) q
      ∙ get_or_append_left roots (drop (first slot + roots_length) memo) 0 j (omega arith)

  before : (j : ℕ) → j < first slot → get_or out j 0 ≡ get_or memo j 0
  before j h = ap (λ (xs : List ℕ). get_or xs j 0) o ∙ get_or_append_left (take (first slot) memo) (roots ++ drop (first slot + roots_length) memo) 0 j (omega (arith, front)) ∙ get_or-take (first slot) memo j 0 h

  past : (j : ℕ) → first slot + roots_length ≤ j → get_or out j 0 ≡ get_or memo j 0
  past j h =
      let q : first slot + roots_length + (j - first slot - roots_length) ≡ j = omega arith in
      ap (λ (xs : List ℕ). get_or xs j 0) o
      ∙ get_or-append_right (take (first slot) memo) (roots ++ drop (first slot + roots_length) memo) (first slot) j 0 front (omega arith)
      ∙ get_or-append_right roots (drop (first slot + roots_length) memo) roots_length (j - (first slot)) 0 lr (omega arith)
      ∙ get_or-drop (first slot + roots_length) memo (j - first slot - roots_length) 0
      ∙ ap (λ (n : ℕ). get_or memo n 0) q

  -- the places of another slot stay
  apart : (s j : ℕ) → (s ≡ slot → ⊥) → j < roots_length → get_or out (place s j) 0 ≡ get_or memo (place s j) 0
  apart s j n h =
      ⊎_elim
      (λ (q : s < slot). before (place s j) (omega arith))
      (λ (q : slot ≤ s). past (place s j) (omega arith))
      (lt_or_ge s slot)

  pub kept_all : (e : ℕ) → Remembered memo slot roots e (set out slot (e + 1))
  kept_all e =
      let size : memo_length ≤ length (set out slot (e + 1)) = omega (arith, long, length-set out slot (e + 1), same_long) in
      let key-at : (s i : ℕ) → get_or (set out slot (e + 1)) (place s i) 0 ≡ get_or out (place s i) 0 =
      λ s i. get_or-set_other out slot (place s i) (e + 1) 0 (λ (q : place s i ≡ slot). absurd (omega arith)) in
      let one : e + 1 ≡ suc e = omega arith in
      record {
        long = size;
        word = get_or-set_same out slot (e + 1) 0 (omega (arith, same_long)) ∙ one;
        key = slot_is (set out slot (e + 1)) slot roots size small lr (λ j g. key-at slot j ∙ replaced j g);
        other_word = λ s l n. get_or-set_other out slot s (e + 1) 0 n ∙ before s (omega arith);
        other_key = λ s l n. slot_is (set out slot (e + 1)) s (slot_roots memo s) size l (slot_length memo s long l) (λ j g. key-at s j ∙ apart s j n g ∙ sym (slot_at memo s j g));
      }
