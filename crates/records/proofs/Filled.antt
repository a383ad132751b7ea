-- A loop that fills an array from the front.
use mathlib.Core.Path.{◌≡◌, sym, ◌∙◌, ap}
use mathlib.Core.List.{List, [], ◌∷◌, ◌++◌, map}
use Prim.Native.Nat.{ℕ, ◌+◌, ◌<◌}
use native.Mathlib.Numerals.{add-one}
use native.Mathlib.Omega.{arith}
use lib.ListN.{length, get_or, take, set, replicate, length-map}
use lib.Seq.{take-suc, length-take-le}
use Rattle.lists.specs.Padded.{padded}
use Rattle.lists.proofs.Map.{map_append}
use Rattle.lists.proofs.Padded.{padded_none, padded_put}

-- after k turns it has f of the first k elements of l
module _ {A B : Type 0} (f : A → B) (m : ℕ) (d : B) (z : A) (l : List A) where
  pub filled_none : replicate m d ≡ padded m d (map f (take 0 l))
  filled_none = sym (padded_none m d)

  pub filled_more : (k : ℕ) (v : B) (ys : List B) → ys ≡ padded m d (map f (take k l)) → v ≡ f (get_or l k z) → k < m → k < length l → set ys k v ≡ padded m d (map f (take (k + 1) l))
  filled_more k v ys p q h g =
      let e : length (map f (take k l)) ≡ k = length-map (take k l) f ∙ length-take-le k l (omega arith) in
      let more : map f (take k l) ++ f (get_or l k z) ∷ [] ≡ map f (take (k + 1) l) = rw (add-one, take-suc l k z, map_append) in
      rw (p, q) (padded_put m k d (f (get_or l k z)) (map f (take k l)) e h ∙ ap (padded m d) more)
