-- Laws of entries by node number: writing them, and their numbers at a pattern.
use mathlib.Core.Path.{◌≡◌, refl, sym, ◌∙◌, ap}
use mathlib.Core.List.{List, [], ◌∷◌, ◌++◌}
use Prim.Native.Nat.{ℕ, ◌+◌, ◌-◌, ◌≤◌, ◌<◌}
use native.Mathlib.Omega.{arith}
use lib.ListN.{length, get_or, take, drop, replicate, length-append, get_or-append, get_or-eq_default}
use lib.Seq.{get_or-take, get_or-append-add, length-take-le}
use Rattle.std.proofs.lemmas.List.{drop-replicate}
use Rattle.lists.specs.Padded.{padded}
use Rattle.lists.proofs.Padded.{padded_length, padded_at, padded_read}
use Rattle.lists.proofs.Map.{map_at}
use Rattle.diagram.specs.Table.{Table, number_at}
use Rattle.net.specs.Roots.{roots_length, change_place}
use Rattle.descent.specs.Settle.{leaf_at}
use Rattle.marked.specs.Changes.{entries_for}
use Rattle.moment.specs.ByNode.{ByNode}

-- the rails' entries before those of the first node records, and zeros past them
pub by_places : (ground supply count : ℕ) (entries first : List ℕ) → length entries ≡ 24 → count ≤ 24 → first ≡ take count entries
    → ByNode ground supply entries count (ground ∷ supply ∷ (first ++ drop count (replicate 24 0)))
by_places ground supply count entries first long few e =
    let rest : List ℕ = first ++ drop count (replicate 24 0) in
    let taken : length (take count entries) ≡ count = length-take-le count entries (omega arith) in
    let is : rest ≡ padded 24 0 (take count entries) = rw (e, taken) (ap (λ (zs : List ℕ). take count entries ++ zs) (drop-replicate count 24 0)) in
    let rest_long : length rest ≡ 24 = ap (λ (l : List ℕ). length l) is ∙ padded_length 24 0 (take count entries) (omega arith) in
    let read : (i : ℕ) → get_or (ground ∷ supply ∷ rest) (2 + i) 0 ≡ get_or (take count entries) i 0 =
    λ i. get_or-append-add (ground ∷ supply ∷ []) rest i 0 ∙ ap (λ (l : List ℕ). get_or l i 0) is ∙ padded_read 24 0 (take count entries) i in
    record {
      long = omega (arith, rest_long);
      ground_is = refl;
      supply_is = refl;
      node_is = λ i h. read i ∙ get_or-take count entries i 0 h;
      past_is = λ j h.
          let from : j ≡ 2 + (j - 2) = omega arith in
          rw from (read (j - 2) ∙ get_or-eq_default (take count entries) 0 {n = j - 2} (omega arith));
    }

-- the numbers at a pattern of the entries by which node n is evaluated
module _ (k : ℕ) (t : Table) (before after pending : List ℕ) (n p : ℕ) (lb : length before ≡ 26) (la : length after ≡ 26) where
  abbrev own : List ℕ
  own = get_or pending n 0 ∷ []

  abbrev front : List ℕ
  front = before ++ after ++ own

  front_long : length front ≡ 53
  front_long = simp length-append (omega arith)

  number_of : (j : ℕ) → j < 53 → get_or (leaf_at k t (entries_for before after pending n) p) j 0 ≡ number_at k t (get_or front j 0) p
  number_of j h =
      map_at (λ (e : ℕ). number_at k t e p) (entries_for before after pending n) 0 0 j (omega (arith, padded_length roots_length 0 front (omega (arith, front_long))))
      ∙ ap (λ (e : ℕ). number_at k t e p) (padded_at roots_length 0 front j 0 (omega (arith, front_long)))

  both_long : length (before ++ after) ≡ change_place
  both_long = simp length-append (omega arith)

  in_front : (j : ℕ) → j < change_place → get_or front j 0 ≡ get_or (before ++ after) j 0
  in_front j h = get_or-append (before ++ after) own 0 j (omega (arith, both_long))

  pub number_before : (j : ℕ) → j < 26 → get_or (leaf_at k t (entries_for before after pending n) p) j 0 ≡ number_at k t (get_or before j 0) p
  number_before j h =
      number_of j (omega arith)
      ∙ ap (λ (e : ℕ). number_at k t e p) (in_front j (omega arith) ∙ get_or-append before after 0 j (omega arith))

  pub number_after_lem : (j : ℕ) → j < 26 → get_or (leaf_at k t (entries_for before after pending n) p) (26 + j) 0 ≡ number_at k t (get_or after j 0) p
  number_after_lem j h =
      number_of (26 + j) (omega arith)
      ∙ ap (λ (e : ℕ). number_at k t e p)
      (in_front (26 + j) (omega arith) ∙ ap (λ (m : ℕ). get_or (before ++ after) (m + j) 0) (sym lb) ∙ get_or-append-add before after j 0)

  pub number_pending : get_or (leaf_at k t (entries_for before after pending n) p) change_place 0 ≡ number_at k t (get_or pending n 0) p
  number_pending =
      number_of change_place (omega arith)
      ∙ ap (λ (e : ℕ). number_at k t e p) (ap (λ (m : ℕ). get_or front (m + 0) 0) (sym both_long) ∙ get_or-append-add (before ++ after) own 0 0)
