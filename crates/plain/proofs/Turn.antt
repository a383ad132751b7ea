-- A loop over a node's listed arms: how far it has come, and what its turns keep.
use mathlib.Core.Path.{◌≡◌, sym, ◌∙◌, ap}
use mathlib.Core.Bool.{Bool, true, false, cond}
use mathlib.Core.List.{List}
use Prim.Native.Nat.{ℕ, ◌+◌, ◌≤◌, ◌<◌}
use native.Mathlib.Omega.{arith}
use lib.ListN.{length, get_or, drop}
use Rattle.plain.proofs.Fold.{fold_arms, fold_next, fold_end, fold_part}

-- After k numbers the loop has v, which is good, and of which the other numbers make the whole.
pub record Turn {A : Type 0} (Good : A → Type 0) (join : A → A → A) (arm : ℕ → A) (goes : ℕ → Bool) (is : List ℕ) (whole : A) (k : ℕ) (v : A) : Type 0 where
  pub within : k ≤ length is
  pub good : Good v
  pub rest : whole ≡ fold_arms goes (λ (w : A) (i : ℕ). join w (arm i)) v (drop k is)

module _ {A : Type 0} {Good : A → Type 0} {join : A → A → A} {arm : ℕ → A} {goes : ℕ → Bool} {is : List ℕ} {whole : A} {k : ℕ} {v : A} (t : Turn Good join arm goes is whole k v) where
  -- at last it has the whole
  pub turn_ends : length is ≤ k → v ≡ whole
  turn_ends h = sym (t.rest ∙ fold_end goes (λ (w : A) (i : ℕ). join w (arm i)) is k v h)

  module _ (h : k < length is) (i : ℕ) (at : i ≡ get_or is k 0) (b : Bool) (e : b ≡ goes i) where
    next : whole ≡ fold_arms goes (λ (w : A) (j : ℕ). join w (arm j)) (cond b (join v (arm i)) v) (drop (k + 1) is)
    next = rw (e, at) (t.rest ∙ fold_next goes (λ (w : A) (j : ℕ). join w (arm j)) is k v h)

    -- a number that does not pass leaves all as it is
    pub turn_passes : b ≡ false → Turn Good join arm goes is whole (k + 1) v
    turn_passes f = record { within = omega arith; good = t.good; rest = rw f at next }

    -- one that passes is joined
    pub turn_joins : b ≡ true → Good (join v (arm i)) → Turn Good join arm goes is whole (k + 1) (join v (arm i))
    turn_joins f g = record { within = omega arith; good = g; rest = rw f at next }

    -- and comes to no more than the whole
    pub turn_part : b ≡ true → (m : A → ℕ) → ((w : A) (j : ℕ) → m w ≤ m (join w (arm j))) → m (join v (arm i)) ≤ m whole
    turn_part f m grows =
        let passes : goes (get_or is k 0) ≡ true = ap goes (sym at) ∙ sym e ∙ f in
        rw (t.rest, at) (fold_part goes (λ (w : A) (j : ℕ). join w (arm j)) m grows is k v h passes)
