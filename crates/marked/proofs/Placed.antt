-- The entries of a node in their places.
use mathlib.Core.Path.{◌≡◌, sym, ◌∙◌, ap, ap₂}
use mathlib.Core.Logic.{⊎_elim}
use mathlib.Core.List.{List, [], ◌∷◌, ◌++◌, append_assoc}
use Prim.Native.Nat.{ℕ, ◌+◌, ◌-◌, ◌≤◌, ◌<◌}
use native.Mathlib.Omega.{arith}
use lib.ListN.{length, get_or, set, take, drop, replicate, length-append, get_or-append, get_or-eq_default}
use lib.Seq.{take_at, drop_at, get_or-append-add}
use Rattle.lists.proofs.Cases.{eq_or_ne, lt_or_ge}
use Rattle.lists.specs.Padded.{padded}
use Rattle.lists.proofs.Padded.{padded_length, padded_read, padded_set}
use Rattle.net.specs.Roots.{roots_length, change_place}
use Rattle.marked.specs.Changes.{entries_with}

module _ (before after : List ℕ) (change : ℕ) (before_long : length before ≡ 26) (after_long : length after ≡ 26) where
  abbrev sides : List ℕ
  sides = before ++ after

  abbrev own : List ℕ
  own = sides ++ change ∷ []

  sides_long : length sides ≡ change_place
  sides_long = length-append before after ∙ omega arith

  own_long : length own ≡ 53
  own_long = length-append sides (change ∷ []) ∙ omega (arith, sides_long)

  pub entries_long : length (entries_with before after change) ≡ roots_length
  entries_long = padded_length roots_length 0 own (omega (arith, own_long))

  in_sides : (j : ℕ) → j < change_place → get_or (entries_with before after change) j 0 ≡ get_or sides j 0
  in_sides j h = padded_read roots_length 0 own j ∙ get_or-append sides (change ∷ []) 0 j (omega (arith, sides_long))

  pub entries_before : (j : ℕ) → j < 26 → get_or (entries_with before after change) j 0 ≡ get_or before j 0
  entries_before j h = in_sides j (omega arith) ∙ get_or-append before after 0 j (omega arith)

  pub entries_after : (j : ℕ) → j < 26 → get_or (entries_with before after change) (26 + j) 0 ≡ get_or after j 0
  entries_after j h =
      let e : 26 + j ≡ length before + j = omega arith in
      in_sides (26 + j) (omega arith) ∙ ap (λ (m : ℕ). get_or sides m 0) e ∙ get_or-append-add before after j 0

  pub entries_change : get_or (entries_with before after change) change_place 0 ≡ change
  entries_change =
      let e : change_place ≡ length sides + 0 = omega (arith, sides_long) in
      padded_read roots_length 0 own change_place ∙ ap (λ (m : ℕ). get_or own m 0) e ∙ get_or-append-add sides (change ∷ []) 0 0

  pub entries_rest : (j : ℕ) → 53 ≤ j → get_or (entries_with before after change) j 0 ≡ 0
  entries_rest j h = padded_read roots_length 0 own j ∙ get_or-eq_default own 0 {n = j} (omega (arith, own_long))

  -- what holds of the entries of both sides, of the change and of 0 holds of all
  pub entries_such : (P : ℕ → Type 0) → ((j : ℕ) → j < 26 → P (get_or before j 0)) → ((j : ℕ) → j < 26 → P (get_or after j 0)) → P change → P 0
      → (j : ℕ) → P (get_or (entries_with before after change) j 0)
  entries_such P first second third rest j =
      ⊎_elim
      (λ (a : j < 26). rw (entries_before j a) (first j a))
      (λ (a : 26 ≤ j).
      ⊎_elim
      (λ (b : j < change_place).
      let e : j ≡ 26 + (j - 26) = omega arith in
      rw (e, entries_after (j - 26) (omega arith)) (second (j - 26) (omega arith)))
      (λ (b : change_place ≤ j). ⊎_elim (λ (q : j ≡ change_place). rw (q, entries_change) third) (λ (n : j ≡ change_place → ⊥). rw (entries_rest j (omega (arith, n))) rest) (eq_or_ne j change_place))
      (lt_or_ge j change_place))
      (lt_or_ge j 26)

-- both sides copied in, and the change behind them
pub placed : {before after first second : List ℕ} → length before ≡ 26 → length after ≡ 26 → (change : ℕ) → first ≡ before → second ≡ after
    → set (take 26 (first ++ drop 26 (replicate roots_length 0)) ++ (second ++ drop 26 (drop 26 (first ++ drop 26 (replicate roots_length 0))))) change_place change
    ≡ entries_with before after change
placed {before} {after} {first} {second} a b change p q =
    let zeros : List ℕ = drop 26 (replicate roots_length 0) in
    let long : length (before ++ after) ≡ change_place = length-append before after ∙ omega arith in
    let rest : 65 ≡ roots_length - length (before ++ after) = omega (arith, long) in
    let both : take 26 (first ++ zeros) ++ (second ++ drop 26 (drop 26 (first ++ zeros))) ≡ padded roots_length 0 (before ++ after) =
    ap₂ (λ (f l : List ℕ). f ++ (second ++ drop 26 l)) (take_at first zeros 26 (ap length p ∙ a)) (drop_at first zeros 26 (ap length p ∙ a))
    ∙ ap₂ (λ (f s : List ℕ). f ++ (s ++ replicate 65 0)) p q
    ∙ sym (append_assoc before after (replicate 65 0))
    ∙ ap (λ (n : ℕ). before ++ after ++ replicate n 0) rest in
    ap (λ (l : List ℕ). set l change_place change) both
    ∙ ap (λ (n : ℕ). set (padded roots_length 0 (before ++ after)) n change) (sym long)
    ∙ padded_set roots_length 0 (before ++ after) change (omega (arith, long))
