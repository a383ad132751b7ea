-- Parts of two columns are the same list where they agree at each place.
use mathlib.Core.Path.{◌≡◌, sym, ◌∙◌, ap}
use mathlib.Core.Logic.{⊎_elim}
use mathlib.Core.List.{List}
use mathlib.Core.Bool.{Bool, true, false}
use Prim.Native.Nat.{ℕ, ◌+◌, ◌-◌, ◌<◌, ◌≤◌}
use native.Mathlib.Omega.{arith}
use lib.Dec.{eqb}
use lib.ListN.{length, get_or, take, drop, length-drop}
use lib.Seq.{get_or-take, get_or-drop, ext_get_or, length-take-le}
use borrow.Author.Tests.{eqb-true, eq-eqb}
use Rattle.std.specs.Cmp.Lexicographic.{pointwise, same_text, other_text}
use Rattle.lists.specs.Tests.{below}
use Rattle.lists.proofs.Cases.{bool_cases, bool_ext}
use Rattle.lists.proofs.Below.{below_each, each_below}

module _ (a b : List ℕ) (from n : ℕ) (p : from + n ≤ length a) (q : from + n ≤ length b) where
  abbrev pub part : List ℕ → List ℕ
  part l = take (from + n - from) (drop from l)

  long : (l : List ℕ) → from + n ≤ length l → length (part l) ≡ n
  long l h = length-take-le (from + n - from) (drop from l) (omega (arith, length-drop from l)) ∙ omega arith

  read : (l : List ℕ) (i : ℕ) → i < n → get_or (part l) i 0 ≡ get_or l (from + i) 0
  read l i h = get_or-take (from + n - from) (drop from l) i 0 (omega arith) ∙ get_or-drop from l i 0

  abbrev pub agree : Bool
  agree = below n (λ i. eqb (get_or a (from + i) 0) (get_or b (from + i) 0))

  pub same_part : pointwise eqb (part a) (part b) ≡ below n (λ i. eqb (get_or a (from + i) 0) (get_or b (from + i) 0))
  same_part =
      bool_ext (pointwise eqb (part a) (part b)) agree
      (λ e.
      let same : part a ≡ part b = same_text (part a) (part b) (sym e) in
      each_below n (λ i. eqb (get_or a (from + i) 0) (get_or b (from + i) 0)) (λ i h.
      eq-eqb (get_or a (from + i) 0) (get_or b (from + i) 0) (sym (read a i h) ∙ ap (λ (l : List ℕ). get_or l i 0) same ∙ read b i h)))
      (λ e.
      let same : part a ≡ part b = ext_get_or 0 (part a) (part b) (long a p ∙ sym (long b q)) (λ i h.
      let g : i < n = omega (arith, long a p) in
      read a i g ∙ eqb-true (get_or a (from + i) 0) (get_or b (from + i) 0) (below_each n (λ j. eqb (get_or a (from + j) 0) (get_or b (from + j) 0)) e i g) ∙ sym (read b i g)) in
      ⊎_elim
      (λ (t : pointwise eqb (part a) (part b) ≡ true). t)
      (λ (f : pointwise eqb (part a) (part b) ≡ false). absurd (other_text (part a) (part b) (sym f) same))
      (bool_cases (pointwise eqb (part a) (part b))))
