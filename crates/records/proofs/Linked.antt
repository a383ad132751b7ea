-- Laws of chains: their records lie within the file, and a walk along a chain finds it.
use mathlib.Core.Path.{◌≡◌, refl, sym, ◌∙◌, ap}
use mathlib.Core.Bool.{true, false, ◌&&◌}
use mathlib.Core.List.{List, [], ◌∷◌, ◌++◌}
use mathlib.Core.Option.{Option, some, none}
use Prim.Native.Nat.{ℕ, suc, ◌+◌, ◌-◌, ◌*◌, ◌<◌, ◌≤◌}
use native.Mathlib.Nat.{sub-zero}
use native.Mathlib.Omega.{arith}
use lib.Dec.{eqb}
use lib.ListN.{length, get_or, take, set, replicate, length-append}
use borrow.Author.Tests.{eq-eqb, ne_eqb}
use Rattle.format.specs.Legal.{within}
use Rattle.format.specs.File.{kind_at, next_at, onto, chain}
use Rattle.format.proofs.Chain.{chain_length, chain_member}
use Rattle.std.specs.Prelude.{Some, None}
use Rattle.lists.specs.Padded.{padded}
use Rattle.records.specs.Chain.{chain_found, Inside}
use Rattle.lists.proofs.Padded.{padded_none, padded_first, padded_at, padded_put}

-- the records of a chain lie within a file of count records
pub chain_inside : (file : List ℕ) (count kind n r : ℕ) (rs : List ℕ) → 16 * (1 + count) ≤ length file → chain file count kind n r ≡ some rs → Inside file n (padded 64 0 rs)
chain_inside file count kind n r rs h e = record { within = at }
  where
    at : (i : ℕ) → i < n → 16 * get_or (padded 64 0 rs) i 0 + 16 ≤ length file
    at i g =
        let k : i < length rs = rw (chain_length file count kind n r rs e) g in
        rw (padded_at 64 0 rs i 0 k) (omega (arith, (chain_member file count kind n r rs e i g).most))

pub chain_take : (file : List ℕ) (count kind n r : ℕ) (rs : List ℕ) → chain file count kind n r ≡ some rs → take n (padded 64 0 rs) ≡ rs
chain_take file count kind n r rs e = padded_first 64 n 0 rs (chain_length file count kind n r rs e)

-- what a chain's answer says of the chain
pub chain_none : (o : Option (List ℕ)) → None ≡ chain_found o → o ≡ none
unfolding chain_found
chain_none none e = refl
chain_none (some rs) e = absurd (let z : ◌≡◌ {A = ℕ} 0 1 = cc in omega arith)

pub record Found (o : Option (List ℕ)) (records : List ℕ) : Type 0 where
  pub chained : List ℕ
  pub some_chain : o ≡ some chained
  pub padded_chain : records ≡ padded 64 0 chained

pub chain_some : (o : Option (List ℕ)) (records : List ℕ) → Some records ≡ chain_found o → Found o records
unfolding chain_found
chain_some none records e = absurd (let z : ◌≡◌ {A = ℕ} 0 1 = cc in omega arith)
chain_some (some rs) records e = record { chained = rs; some_chain = refl; padded_chain = cc }

-- so the numbers that are answered lie within the file, and the first n of them are the chain
module _ (file : List ℕ) (count kind n r : ℕ) (records : List ℕ) (f : Found (chain file count kind n r) records) where
  pub found_inside : 16 * (1 + count) ≤ length file → Inside file n records
  found_inside h = rw f.padded_chain (chain_inside file count kind n r f.chained h f.some_chain)

  pub found_take : take n records ≡ f.chained
  found_take = rw f.padded_chain (chain_take file count kind n r f.chained f.some_chain)

-- The walk: records put in front of what the rest of the chain gives.
abbrev pub ahead : List ℕ → Option (List ℕ) → Option (List ℕ)
ahead [] o = o
ahead (r ∷ rs) o = onto r (ahead rs o)

ahead_none : (rs : List ℕ) → ahead rs none ≡ none
ahead_none [] = refl
ahead_none (r ∷ rs) = ap (onto r) (ahead_none rs)

ahead_end : (rs : List ℕ) → ahead rs (some []) ≡ some rs
ahead_end [] = refl
ahead_end (r ∷ rs) = ap (onto r) (ahead_end rs)

ahead_snoc : (rs : List ℕ) (r : ℕ) (o : Option (List ℕ)) → ahead rs (onto r o) ≡ ahead (rs ++ r ∷ []) o
ahead_snoc [] r o = refl
ahead_snoc (q ∷ qs) r o = ap (onto q) (ahead_snoc qs r o)

-- what holds after k records, with r the next one
pub record Walked (file : List ℕ) (count kind n first : ℕ) (records : List ℕ) (r k : ℕ) : Type 0 where
  pub met : List ℕ
  pub long : length met ≡ k
  pub kept : records ≡ padded 64 0 met
  pub rest : chain file count kind n first ≡ ahead met (chain file count kind (n - k) r)

module _ (file : List ℕ) (count kind n first : ℕ) where
  pub walked_none : Walked file count kind n first (replicate 64 0) first 0
  walked_none = record { met = []; long = refl; kept = sym (padded_none 64 0); rest = rw sub-zero }

  module _ (records : List ℕ) (r k : ℕ) (w : Walked file count kind n first records r k) where
    pub walked_more : k < n → n ≤ 64 → (within 1 count r && eqb (kind_at file r) kind) ≡ true → (s : ℕ) → s ≡ next_at file r → Walked file count kind n first (set records k r) s (k + 1)
    unfolding chain
    walked_more h g t s e =
        let m : n - k ≡ suc (n - (k + 1)) = omega arith in
        record {
          met = w.met ++ r ∷ [];
          long = length-append w.met (r ∷ []) ∙ omega (arith, w.long);
          kept = rw w.kept (padded_put 64 k 0 r w.met w.long (omega arith));
          rest = w.rest ∙ rw (m, t, e) (ahead_snoc w.met r (chain file count kind (n - (k + 1)) (next_at file r)));
        }

    pub walked_broken : k < n → (within 1 count r && eqb (kind_at file r) kind) ≡ false → None ≡ chain_found (chain file count kind n first)
    unfolding chain chain_found
    walked_broken h t =
        let m : n - k ≡ suc (n - (k + 1)) = omega arith in
        let e : chain file count kind n first ≡ none = w.rest ∙ rw (m, t) (ahead_none w.met) in
        rw e

    pub walked_late : n ≤ k → (r ≡ 0 → ⊥) → None ≡ chain_found (chain file count kind n first)
    unfolding chain chain_found
    walked_late h t =
        let m : n - k ≡ 0 = omega arith in
        let e : chain file count kind n first ≡ none = w.rest ∙ rw (m, ne_eqb r 0 t) (ahead_none w.met) in
        rw e

    pub walked_done : n ≤ k → r ≡ 0 → Some records ≡ chain_found (chain file count kind n first)
    unfolding chain chain_found
    walked_done h t =
        let m : n - k ≡ 0 = omega arith in
        let e : chain file count kind n first ≡ some w.met = w.rest ∙ rw (m, eq-eqb r 0 t) (ahead_end w.met) in
        rw (e, w.kept)
