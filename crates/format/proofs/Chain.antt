-- Laws of a chain of records: its length, its members, and that it names each record once.
use mathlib.Core.Path.{◌≡◌, refl, sym, ◌∙◌, ap}
use mathlib.Core.Bool.{Bool, true, false, ◌&&◌, cond}
use mathlib.Core.List.{List, [], ◌∷◌}
use mathlib.Core.Option.{Option, some, none}
use Prim.Native.Nat.{ℕ, zero, suc, ◌-◌, ◌≤◌, ◌<◌}
use native.Mathlib.Nat.{le_of_suc-le-suc, sub-zero, suc-sub-suc}
use native.Mathlib.Omega.{arith}
use lib.ListN.{length, get_or, drop}
use lib.Dec.{leb, eqb}
use borrow.Author.Tests.{leb-true, eqb-true}
use Rattle.format.specs.Legal.{within}
use Rattle.format.specs.File.{kind_at, next_at, onto, chain}
use Rattle.lists.proofs.Cases.{and_left, and_right}

none_not_some : {A B : Type 0} {a : A} → none ≡ some a → B
none_not_some e = let z : ◌≡◌ {A = ℕ} 0 1 = cc in absurd (omega arith)

-- a record that a chain of a kind can name
pub record Member (file : List ℕ) (count kind r : ℕ) : Type 0 where
  pub least : 1 ≤ r
  pub most : r ≤ count
  pub kind_is : kind_at file r ≡ kind

-- by a link's test
pub member : (file : List ℕ) (count kind r : ℕ) → within 1 count r && eqb (kind_at file r) kind ≡ true → Member file count kind r
member file count kind r e =
    let w : within 1 count r ≡ true = and_left (within 1 count r) (eqb (kind_at file r) kind) e in
    record {
      least = leb-true 1 r (and_left (leb 1 r) (leb r count) w);
      most = leb-true r count (and_right (leb 1 r) (leb r count) w);
      kind_is = eqb-true _ _ (and_right (within 1 count r) (eqb (kind_at file r) kind) e);
    }

cond_some : {A : Type 0} (t : Bool) (o : Option A) (a : A) → cond t o none ≡ some a → (t ≡ true) × (o ≡ some a)
cond_some true o a e = (refl, e)
cond_some false o a e = none_not_some e

onto_some : (r : ℕ) (o : Option (List ℕ)) (rs : List ℕ) → onto r o ≡ some rs → (rest : List ℕ) × (o ≡ some rest) × (rs ≡ r ∷ rest)
onto_some r none rs e = none_not_some e
onto_some r (some rest) rs e = (rest, refl, cc)

module _ (file : List ℕ) (count kind : ℕ) where
  -- a chain of some records: the first, then the chain from its next one
  pub record Goes (n r : ℕ) (rs : List ℕ) : Type 0 where
    pub first : Member file count kind r
    pub rest : List ℕ
    pub onward : chain file count kind n (next_at file r) ≡ some rest
    pub split : rs ≡ r ∷ rest

  -- a chain of no records starts nowhere
  pub chain_ends : (r : ℕ) (rs : List ℕ) → chain file count kind zero r ≡ some rs → (r ≡ 0) × (rs ≡ [])
  unfolding chain
  chain_ends r rs e =
      let p = cond_some (eqb r 0) (some []) rs e in
      (eqb-true r 0 p.0, cc)

  -- a chain of one record more goes on from a record of its kind
  pub chain_goes : (n r : ℕ) (rs : List ℕ) → chain file count kind (suc n) r ≡ some rs → Goes n r rs
  unfolding chain
  chain_goes n r rs e =
      let p = cond_some (within 1 count r && eqb (kind_at file r) kind) _ rs e in
      let q = onto_some r (chain file count kind n (next_at file r)) rs p.1 in
      record { first = member file count kind r p.0; rest = q.0; onward = q.1; split = q.2 }

  -- a chain of n records has n records
  pub chain_length : (n r : ℕ) (rs : List ℕ) → chain file count kind n r ≡ some rs → length rs ≡ n
  chain_length zero r rs e = ap length (chain_ends r rs e).1
  chain_length (suc n) r rs e =
      let g = chain_goes n r rs e in
      ap length g.split ∙ ap suc (chain_length n (next_at file r) g.rest g.onward)

  -- each of them is a record of the file, of the chain's kind
  pub chain_member : (n r : ℕ) (rs : List ℕ) → chain file count kind n r ≡ some rs → (i : ℕ) → i < n → Member file count kind (get_or rs i 0)
  chain_member zero r rs e i h = absurd (omega arith)
  chain_member (suc n) r rs e zero h = let g = chain_goes n r rs e in rw g.split g.first
  chain_member (suc n) r rs e (suc i) h =
      let g = chain_goes n r rs e in
      rw g.split (chain_member n (next_at file r) g.rest g.onward i (le_of_suc-le-suc h))

  -- the same, by the length of the list
  pub chain_place : (n r : ℕ) (rs : List ℕ) → chain file count kind n r ≡ some rs → (i : ℕ) → i < length rs → Member file count kind (get_or rs i 0)
  chain_place n r rs e i h = chain_member n r rs e i (rw (chain_length n r rs e) at h)

  -- from place i on, a chain is the chain from that record
  pub chain_from : (n r : ℕ) (rs : List ℕ) → chain file count kind n r ≡ some rs → (i : ℕ) → i < n → chain file count kind (n - i) (get_or rs i 0) ≡ some (drop i rs)
  chain_from zero r rs e i h = absurd (omega arith)
  chain_from (suc n) r rs e zero h = rw (sub-zero (suc n)) (let g = chain_goes n r rs e in rw g.split (rw g.split at e))
  chain_from (suc n) r rs e (suc i) h =
      let g = chain_goes n r rs e in
      rw (g.split, suc-sub-suc) (chain_from n (next_at file r) g.rest g.onward i (le_of_suc-le-suc h))

  -- from one record there is one length of chain
  pub chain_one_length : (n m r : ℕ) (xs ys : List ℕ) → chain file count kind n r ≡ some xs → chain file count kind m r ≡ some ys → n ≡ m
  chain_one_length zero zero r xs ys p q = refl
  chain_one_length zero (suc m) r xs ys p q = absurd (omega (arith, (chain_ends r xs p).0, (chain_goes m r ys q).first.least))
  chain_one_length (suc n) zero r xs ys p q = absurd (omega (arith, (chain_ends r ys q).0, (chain_goes n r xs p).first.least))
  chain_one_length (suc n) (suc m) r xs ys p q =
      let g = chain_goes n r xs p in
      let h = chain_goes m r ys q in
      ap suc (chain_one_length n m (next_at file r) g.rest h.rest g.onward h.onward)

  -- a chain names each record once
  pub chain_distinct : (n r : ℕ) (rs : List ℕ) → chain file count kind n r ≡ some rs → (i j : ℕ) → i < j → j < n → get_or rs i 0 ≡ get_or rs j 0 → ⊥
  chain_distinct n r rs e i j lt h same =
      let p = chain_from n r rs e i (omega arith) in
      let q = chain_from n r rs e j h in
      omega (arith, chain_one_length (n - i) (n - j) (get_or rs j 0) (drop i rs) (drop j rs) (rw same at p) q)

-- chains of different kinds share no record
pub chains_apart : (file : List ℕ) (count kind kind' : ℕ) → (kind ≡ kind' → ⊥)
    → (n r : ℕ) (rs : List ℕ) → chain file count kind n r ≡ some rs
    → (n' r' : ℕ) (rs' : List ℕ) → chain file count kind' n' r' ≡ some rs'
    → (i j : ℕ) → i < n → j < n' → get_or rs i 0 ≡ get_or rs' j 0 → ⊥
chains_apart file count kind kind' differ n r rs e n' r' rs' e' i j hi hj same =
    differ (sym (chain_member file count kind n r rs e i hi).kind_is ∙ ap (kind_at file) same ∙ (chain_member file count kind' n' r' rs' e' j hj).kind_is)
