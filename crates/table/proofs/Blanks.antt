-- Whether rows are blank, by the bitwise or of all their numbers.
use mathlib.Core.Path.{◌≡◌, sym, ◌∙◌, ap}
use mathlib.Core.Logic.{⊎_elim}
use mathlib.Core.List.{List}
use Prim.Native.Nat.{ℕ, ◌+◌, ◌-◌, ◌<◌, ◌≤◌}
use native.Mathlib.Omega.{arith}
use lib.ListN.{length, get_or, drop, length-drop}
use lib.Seq.{get_or-drop}
use lib.Dec.{eqb}
use lib.Bits.{bit_or, or_add_and, and_le_l, and_le_r}
use borrow.Author.Tests.{eqb-true, eq-eqb}
use Rattle.lists.proofs.Cases.{lt_or_ge, bool_ext}
use Rattle.diagram.specs.Table.{Table, blank, entry_at}
use Rattle.diagram.specs.Held.{all_blank, entries, high_of, letter_of, low_of}
use Rattle.diagram.proofs.Sound.{entry_path}
use Rattle.diagram.proofs.Held.{blank_each, each_blank, entries_at, entries_length}

-- a bitwise or that is 0 is of zeros
or_left : (a b : ℕ) → bit_or a b ≡ 0 → a ≡ 0
or_left a b e = omega (arith, or_add_and a b, and_le_r a b)

or_right : (a b : ℕ) → bit_or a b ≡ 0 → b ≡ 0
or_right a b e = omega (arith, or_add_and a b, and_le_l a b)

-- the rows from a place on, as far as a number, are blank
pub record Blanks (t : Table) (from n : ℕ) : Type 0 where
  pub each : (i : ℕ) → from ≤ i → i < n → entry_at t i ≡ blank

-- the bitwise or of the numbers in those rows is 0 where they are blank, and only there
pub record Gathered (t : Table) (from n bits : ℕ) : Type 0 where
  pub passed : from ≤ n
  pub blanks : bits ≡ 0 → Blanks t from n
  pub none : Blanks t from n → bits ≡ 0

module _ (l w h : List ℕ) (p : length w ≡ length l) (q : length h ≡ length l) {from n bits : ℕ} (g : Gathered (entries l w h) from n bits) where
  -- a row more
  pub gathered_next : Gathered (entries l w h) from (n + 1) (bit_or bits (bit_or (bit_or (get_or l n 0) (get_or w n 0)) (get_or h n 0)))
  gathered_next =
      let t : Table = entries l w h in
      let x : ℕ = bit_or (get_or l n 0) (get_or w n 0) in
      let y : ℕ = bit_or x (get_or h n 0) in
      let past : from ≤ n = g.passed in
      record {
        passed = omega arith;
        blanks = λ e.
            let ey : y ≡ 0 = or_right bits y e in
            let ex : x ≡ 0 = or_left x (get_or h n 0) ey in
            let before : Blanks t from n = g.blanks (or_left bits y e) in
            let row : entry_at t n ≡ blank = entries_at l w h p q n ∙ entry_path _ blank (or_left (get_or l n 0) (get_or w n 0) ex) (or_right (get_or l n 0) (get_or w n 0) ex) (or_right x (get_or h n 0) ey) in
            record {
              each = λ i a k.
                  ⊎_elim
                  (λ (s : i < n). before.each i a s)
                  (λ (s : n ≤ i). let z : i ≡ n = omega arith in rw z row)
                  (lt_or_ge i n);
            };
        none = λ b.
            let row : entry_at t n ≡ blank = b.each n past (omega arith) in
            let at = entries_at l w h p q n in
            rw (
              g.none (record { each = λ i a k. b.each i a (omega arith) }),
              ap letter_of (sym at ∙ row),
              ap low_of (sym at ∙ row),
              ap high_of (sym at ∙ row),
            );
      }

  -- all of them
  pub gathered_all : length l ≤ n → eqb bits 0 ≡ all_blank (drop from (entries l w h))
  gathered_all end =
      let t : Table = entries l w h in
      let past : from ≤ n = g.passed in
      bool_ext (eqb bits 0) (all_blank (drop from t))
      (λ e.
      let b : Blanks t from n = g.blanks (eqb-true bits 0 e) in
      each_blank (drop from t) (λ i k. get_or-drop from t i blank ∙ b.each (from + i) (omega arith) (omega (arith, length-drop from t, entries_length l w h p q))))
      (λ e.
      eq-eqb bits 0
      (g.none
      (record {
        each = λ i a k.
            let there : i ≡ from + (i - from) = omega arith in
            ap (entry_at t) there ∙ sym (get_or-drop from t (i - from) blank) ∙ blank_each (drop from t) e (i - from);
      })))
