-- Loops that go through the roots: one that fills a list place by place, and one that finds the least letter.
use mathlib.Core.Path.{◌≡◌, sym}
use mathlib.Core.Logic.{⊎_elim}
use mathlib.Core.List.{List}
use Prim.Native.Nat.{ℕ, ◌+◌, ◌<◌, ◌≤◌, min}
use native.Mathlib.Omega.{arith}
use lib.ListN.{length, get_or}
use Rattle.lists.proofs.Cases.{lt_or_ge}
use Rattle.diagram.specs.Table.{terminal_letter}

-- the places before j are filled
pub record FilledTo (F : ℕ → ℕ) (size j : ℕ) (out : List ℕ) : Type 0 where
  pub long : length out ≡ size
  pub is : (i : ℕ) → i < j → get_or out i 0 ≡ F i

-- m is the least letter before place j
pub record LeastTo (letter roots : List ℕ) (j m : ℕ) : Type 0 where
  pub least : (i : ℕ) → i < j → m ≤ get_or letter (get_or roots i 0) 0
  pub taken : (m ≡ terminal_letter → ⊥) → (i : ℕ) × (i < j) × (get_or letter (get_or roots i 0) 0 ≡ m)

-- one more root
pub least_next : (letter roots : List ℕ) (j m x : ℕ) → LeastTo letter roots j m → x ≡ get_or letter (get_or roots j 0) 0 → LeastTo letter roots (j + 1) (min m x)
least_next letter roots j m x h e =
    ⊎_elim
    (λ (g : m < x).
    let z : min m x ≡ m = omega arith in
    rw z (record {
      least = λ i l.
          ⊎_elim (λ (b : i < j). h.least i b) (λ (b : j ≤ i). let q : i ≡ j = omega arith in rw q (omega arith)) (lt_or_ge i j);
      taken = λ n. let t = h.taken n in (t.0, omega (arith, t.1), t.2);
    }))
    (λ (g : x ≤ m).
    let z : min m x ≡ x = omega arith in
    rw z (record {
      least = λ i l.
          ⊎_elim (λ (b : i < j). omega (arith, h.least i b)) (λ (b : j ≤ i). let q : i ≡ j = omega arith in rw q (omega arith)) (lt_or_ge i j);
      taken = λ n. (j, omega arith, sym e);
    }))
    (lt_or_ge m x)
