-- Five numbers written over a list of five.
use mathlib.Core.Path.{◌≡◌, refl}
use mathlib.Core.List.{List, [], ◌∷◌}
use Prim.Native.Nat.{ℕ}
use native.Mathlib.Omega.{arith}
use lib.ListN.{length, set}

pub five : (l : List ℕ) (a b c d e : ℕ) → length l ≡ 5 → set (set (set (set (set l 0 a) 1 b) 2 c) 3 d) 4 e ≡ a ∷ b ∷ c ∷ d ∷ e ∷ []
five [] a b c d e h = absurd (omega arith)
five (x ∷ []) a b c d e h = absurd (omega arith)
five (x ∷ y ∷ []) a b c d e h = absurd (omega arith)
five (x ∷ y ∷ z ∷ []) a b c d e h = absurd (omega arith)
five (x ∷ y ∷ z ∷ u ∷ []) a b c d e h = absurd (omega arith)
five (x ∷ y ∷ z ∷ u ∷ v ∷ []) a b c d e h = refl
five (x ∷ y ∷ z ∷ u ∷ v ∷ w ∷ l) a b c d e h = absurd (omega arith)
