-- Laws of a list whose elements each give a list of one length, and of the element at a place.
use mathlib.Core.Path.{◌≡◌, refl, sym, ◌∙◌, ap₂}
use mathlib.Core.Bool.{true}
use mathlib.Core.List.{List, [], ◌∷◌, flat_map}
use Prim.Native.Nat.{ℕ, zero, suc, ◌+◌, ◌*◌, ◌<◌, ◌≤◌}
use native.Mathlib.Nat.{zero-mul, suc-mul}
use native.Mathlib.Omega.{arith}
use lib.Dec.{eqb}
use lib.ListN.{length, get_or, length-append, get_or-append}
use lib.Seq.{get_or-append-add}
use borrow.Author.Tests.{eqb-true}
use Rattle.lists.proofs.Cases.{and_left, and_right}
use Rattle.refusal.specs.declared.Refusal.TheVariants.{Question}
use Rattle.refusal.specs.Answer.{refused, answered}
use Rattle.format.specs.Circuit.{every}
use Rattle.catalog.specs.Lists.{listed_at}

-- every element gives n
module _ {A B : Type 0} (f : A → List B) (n : ℕ) where
  abbrev pub Alike : List A → Type 0
  Alike xs = every (λ (x : A). eqb (length (f x)) n) xs ≡ true

  alike_first : (x : A) (xs : List A) → Alike (x ∷ xs) → length (f x) ≡ n
  unfolding every
  alike_first x xs e = eqb-true (length (f x)) n (and_left (eqb (length (f x)) n) (every (λ (y : A). eqb (length (f y)) n) xs) e)

  alike_rest : (x : A) (xs : List A) → Alike (x ∷ xs) → Alike xs
  unfolding every
  alike_rest x xs e = and_right (eqb (length (f x)) n) (every (λ (y : A). eqb (length (f y)) n) xs) e

  pub flat_length : (xs : List A) → Alike xs → length (flat_map f xs) ≡ length xs * n
  unfolding flat_map
  flat_length [] e = sym (zero-mul n)
  flat_length (x ∷ xs) e =
      length-append (f x) (flat_map f xs) ∙ ap₂ ◌+◌ (alike_first x xs e) (flat_length xs (alike_rest x xs e)) ∙ omega (arith, suc-mul (length xs) n)

  -- place q * n + r is place r of what element q gives
  pub flat_at : (xs : List A) → Alike xs → (q r : ℕ) (d : A) (e : B) → q < length xs → r < n → get_or (flat_map f xs) (q * n + r) e ≡ get_or (f (get_or xs q d)) r e
  unfolding flat_map
  flat_at [] a q r d e h g = absurd (omega arith)
  flat_at (x ∷ xs) a zero r d e h g =
      let place : zero * n + r ≡ r = omega (arith, zero-mul n) in
      rw place (get_or-append (f x) (flat_map f xs) e r (omega (arith, alike_first x xs a)))
  flat_at (x ∷ xs) a (suc q) r d e h g =
      let place : suc q * n + r ≡ length (f x) + (q * n + r) = omega (arith, suc-mul q n, alike_first x xs a) in
      rw place (get_or-append-add (f x) (flat_map f xs) (q * n + r) e ∙ flat_at xs (alike_rest x xs a) q r d e (omega arith) g)

-- the element at a place, and none past the last
module _ {A : Type 0} (d : A) where
  pub listed_at_lem : (xs : List A) (i : ℕ) → i < length xs → listed_at xs i ≡ answered (get_or xs i d)
  unfolding listed_at
  listed_at_lem [] i h = absurd (omega arith)
  listed_at_lem (x ∷ xs) zero h = refl
  listed_at_lem (x ∷ xs) (suc i) h = listed_at_lem xs i (omega arith)

pub listed_past : {A : Type 0} (xs : List A) (i : ℕ) → length xs ≤ i → listed_at xs i ≡ refused Question
unfolding listed_at
listed_past [] i h = refl
listed_past (x ∷ xs) zero h = absurd (omega arith)
listed_past (x ∷ xs) (suc i) h = listed_past xs i (omega arith)
