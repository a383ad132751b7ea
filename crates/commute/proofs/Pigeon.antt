-- A one-to-one map from the numbers below a to the numbers below b: a is at most b.
use mathlib.Core.Path.{◌≡◌, sym, ◌∙◌}
use mathlib.Core.Logic.{⊎_elim}
use mathlib.Core.Bool.{cond}
use Prim.Native.Nat.{ℕ, zero, suc, ◌<◌, ◌≤◌}
use native.Mathlib.Omega.{arith}
use lib.Dec.{eqb}
use borrow.Author.Tests.{eq-eqb, ne_eqb}
use Rattle.lists.proofs.Cases.{eq_or_ne}

-- equal values below a bound come from equal numbers
abbrev pub OneToOne : ℕ → (ℕ → ℕ) → Type 0
OneToOne a f = (i j : ℕ) → i < a → j < a → f i ≡ f j → i ≡ j

-- the map without its last number: what went to the last place goes where the last number went
abbrev without : ℕ → ℕ → (ℕ → ℕ) → ℕ → ℕ
without a b f i = cond (eqb (f i) b) (f a) (f i)

module _ (a b : ℕ) (f : ℕ → ℕ) (into : (i : ℕ) → i < suc a → f i < suc b) (apart : OneToOne (suc a) f) where
  last_differs : (i : ℕ) → i < a → f i ≡ f a → ⊥
  last_differs i h e = let z : i ≡ a = apart i a (omega arith) (omega arith) e in omega arith

  without_into : (i : ℕ) → i < a → without a b f i < b
  without_into i h =
      ⊎_elim
      (λ (e : f i ≡ b).
      ⊎_elim
      (λ (z : f a ≡ b). absurd (last_differs i h (e ∙ sym z)))
      (λ (z : f a ≡ b → ⊥). rw (eq-eqb (f i) b e) (omega (arith, into a (omega arith))))
      (eq_or_ne (f a) b))
      (λ (e : f i ≡ b → ⊥). rw (ne_eqb (f i) b e) (omega (arith, into i (omega arith))))
      (eq_or_ne (f i) b)

  without_apart : OneToOne a (without a b f)
  without_apart i j hi hj =
      ⊎_elim
      (λ (ei : f i ≡ b).
      ⊎_elim
      (λ (ej : f j ≡ b). λ q. apart i j (omega arith) (omega arith) (ei ∙ sym ej))
      (λ (ej : f j ≡ b → ⊥). rw (eq-eqb (f i) b ei, ne_eqb (f j) b ej) (λ q. absurd (last_differs j hj (sym q))))
      (eq_or_ne (f j) b))
      (λ (ei : f i ≡ b → ⊥).
      ⊎_elim
      (λ (ej : f j ≡ b). rw (ne_eqb (f i) b ei, eq-eqb (f j) b ej) (λ q. absurd (last_differs i hi q)))
      (λ (ej : f j ≡ b → ⊥). rw (ne_eqb (f i) b ei, ne_eqb (f j) b ej) (λ q. apart i j (omega arith) (omega arith) q))
      (eq_or_ne (f j) b))
      (eq_or_ne (f i) b)

pub pigeon : (a b : ℕ) (f : ℕ → ℕ) → ((i : ℕ) → i < a → f i < b) → OneToOne a f → a ≤ b
pigeon zero b f into apart = omega arith
pigeon (suc a) zero f into apart = absurd (omega (arith, into a (omega arith)))
pigeon (suc a) (suc b) f into apart =
    let fewer : a ≤ b = pigeon a b (without a b f) (without_into a b f into apart) (without_apart a b f into apart) in
    omega arith
