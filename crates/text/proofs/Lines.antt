-- Laws of lines one behind the other, and of a loop that writes them.
use mathlib.Core.Path.{◌≡◌, refl, sym, ◌∙◌, ap₂}
use mathlib.Core.Logic.{⊎_elim}
use mathlib.Core.List.{List, [], ◌++◌, append-nil}
use Prim.Native.Nat.{ℕ, zero, suc, ◌+◌, ◌*◌, ◌≤◌, ◌<◌}
use native.Mathlib.Nat.{add-zero}
use native.Mathlib.Numerals.{add-one}
use native.Mathlib.Omega.{arith}
use lib.ListN.{length, take, length-append, take-append-drop}
use Rattle.lists.proofs.Cases.{lt_or_ge}
use Rattle.text.specs.Lines.{lines_of}
use Rattle.text.specs.Written.{Wrote}
use Rattle.text.proofs.Written.{wrote_then, wrote_room, wrote_length}

-- lines that agree
pub lines_same : (n : ℕ) (f g : ℕ → List ℕ) → ((i : ℕ) → i < n → f i ≡ g i) → lines_of n f ≡ lines_of n g
unfolding lines_of
lines_same zero f g e = refl
lines_same (suc n) f g e = ap₂ (λ (x y : List ℕ). x ++ y) (lines_same n f g (λ i h. e i (omega arith))) (e n (omega arith))

-- each line is a part of all
pub lines_part : (n : ℕ) (line : ℕ → List ℕ) (i : ℕ) → i < n → length (lines_of i line) + length (line i) ≤ length (lines_of n line)
unfolding lines_of
lines_part zero line i h = absurd (omega arith)
lines_part (suc n) line i h =
    let sum = length-append (lines_of n line) (line n) in
    ⊎_elim
    (λ (l : i < n). omega (arith, lines_part n line i l))
    (λ (l : n ≤ i). let e : i ≡ n = omega arith in rw e (omega arith))
    (lt_or_ge i n)

-- short lines are short together
pub lines_short : (n most : ℕ) (line : ℕ → List ℕ) → ((i : ℕ) → i < n → length (line i) ≤ most) → length (lines_of n line) ≤ n * most
unfolding lines_of
lines_short zero most line h = omega arith
lines_short (suc n) most line h =
    omega (arith, length-append (lines_of n line) (line n), lines_short n most line (λ i l. h i (omega arith)), h n (omega arith))

-- nothing written
pub wrote_none : (out : List ℕ) (at : ℕ) → Wrote out out at [] at
wrote_none out at = record {
  end_is = omega arith;
  is = rw (append-nil (take at out), add-zero at) (sym (take-append-drop at out));
}

-- a loop has written the first i of n lines
pub record Lined (line : ℕ → List ℕ) (n : ℕ) (before after : List ℕ) (at i end : ℕ) : Type 0 where
  pub some : i ≤ n
  pub wrote : Wrote before after at (lines_of i line) end
  pub same : length after ≡ length before

-- none yet
pub lined_none : (line : ℕ → List ℕ) (n : ℕ) (out : List ℕ) (at : ℕ) → Lined line n out out at 0 at
unfolding lines_of
lined_none line n out at = record { some = omega arith; wrote = wrote_none out at; same = refl }

module _ {line : ℕ → List ℕ} {n : ℕ} {before after : List ℕ} {at i end : ℕ} (l : Lined line n before after at i end) where
  -- there is room for the next
  pub lined_room : i < n → at + length (lines_of n line) ≤ length before → end + length (line i) ≤ length after
  lined_room h room = wrote_room (line i) l.wrote (omega (arith, lines_part n line i h))

  -- it is written
  pub lined_more : {next : List ℕ} {end' : ℕ} → i < n → at + length (lines_of n line) ≤ length before → Wrote after next end (line i) end'
      → Lined line n before next at (i + 1) end'
  unfolding lines_of
  lined_more h room w = rw (add-one i) (record {
    some = omega arith;
    wrote = wrote_then l.wrote w (omega arith);
    same = wrote_length w (lined_room h room) ∙ l.same;
  })

  -- all are
  pub lined_done : n ≤ i → Wrote before after at (lines_of n line) end
  lined_done h = let e : n ≡ i = omega (arith, l.some) in rw e l.wrote
