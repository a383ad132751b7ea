-- Laws of a list written into a longer column.
use mathlib.Core.Path.{◌≡◌, refl, ◌∙◌, ap}
use mathlib.Core.Logic.{⊎_elim}
use mathlib.Core.List.{List, [], ◌∷◌, ◌++◌}
use Prim.Native.Nat.{ℕ, zero, suc, ◌+◌, ◌-◌, ◌<◌, ◌≤◌}
use native.Mathlib.Nat.{sub-zero}
use native.Mathlib.Omega.{arith}
use lib.ListN.{length, get_or, take, drop, set, replicate, length-append, length-replicate, take-append-drop, get_or-append, get_or-eq_default}
use lib.Seq.{take-append_seam, get_or-append-add, set-append_seam, append_snoc, length-take-le}
use Rattle.lists.specs.Padded.{padded}
use Rattle.lists.proofs.Cases.{lt_or_ge}

-- default elements read with the default
pub replicate_read : {A : Type 0} (n i : ℕ) (d : A) → get_or (replicate n d) i d ≡ d
replicate_read zero i d = refl
replicate_read (suc n) zero d = refl
replicate_read (suc n) (suc i) d = replicate_read n i d

module _ {A : Type 0} (m : ℕ) (d : A) (xs : List A) where
  -- the column is as long as it was to be
  pub padded_length : length xs ≤ m → length (padded m d xs) ≡ m
  padded_length h = simp (length-append, length-replicate) (omega arith)

  -- the list stands first
  pub padded_take : take (length xs) (padded m d xs) ≡ xs
  padded_take = take-append_seam xs (replicate (m - length xs) d)

  -- below the list's length stand its elements
  pub padded_at : (i : ℕ) (e : A) → i < length xs → get_or (padded m d xs) i e ≡ get_or xs i e
  padded_at i e h = get_or-append xs (replicate (m - length xs) d) e i h

  -- read with the default, the column is the list
  pub padded_read : (i : ℕ) → get_or (padded m d xs) i d ≡ get_or xs i d
  padded_read i =
      ⊎_elim
      (λ (h : i < length xs). padded_at i d h)
      (λ (h : length xs ≤ i).
      let e : i ≡ length xs + (i - length xs) = omega arith in
      rw (get_or-eq_default xs d {n = i} h) (ap (λ (j : ℕ). get_or (padded m d xs) j d) e ∙ get_or-append-add xs (replicate (m - length xs) d) (i - length xs) d ∙ replicate_read (m - length xs) (i - length xs) d))
      (lt_or_ge i (length xs))

  -- the next element is written at the list's length
  pub padded_set : (v : A) → length xs < m → set (padded m d xs) (length xs) v ≡ padded m d (xs ++ v ∷ [])
  padded_set v h =
      let more : m - length xs ≡ suc (m - suc (length xs)) = omega arith in
      let fewer : m - length (xs ++ v ∷ []) ≡ m - suc (length xs) = simp length-append (omega arith) in
      rw (more, fewer, append_snoc) (set-append_seam xs d (replicate (m - suc (length xs)) d) v)

-- a column whose rest is the default is its first part, padded
pub padded_of_take : {A : Type 0} (d : A) (column : List A) (n : ℕ) → n ≤ length column → drop n column ≡ replicate (length column - n) d
    → padded (length column) d (take n column) ≡ column
padded_of_take d column n h e = rw (length-take-le n column h, ← e) (take-append-drop n column)

-- nothing written yet
pub padded_none : {A : Type 0} (m : ℕ) (d : A) → padded m d [] ≡ replicate m d
padded_none m d = rw sub-zero

-- the list stands first, its length by another name
pub padded_first : {A : Type 0} (m n : ℕ) (d : A) (xs : List A) → length xs ≡ n → take n (padded m d xs) ≡ xs
padded_first m n d xs e = rw (← e) (padded_take m d xs)

-- and the next element is written there
pub padded_put : {A : Type 0} (m n : ℕ) (d v : A) (xs : List A) → length xs ≡ n → n < m → set (padded m d xs) n v ≡ padded m d (xs ++ v ∷ [])
padded_put m n d v xs e h = rw (← e) (padded_set m d xs v (omega arith))
