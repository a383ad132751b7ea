-- Laws of the index: what a head and a link say, and one entry more.
use mathlib.Core.Path.{◌≡◌, refl, sym, ◌∙◌, ap}
use mathlib.Core.Logic.{◌≢◌, ⊎_elim}
use mathlib.Core.List.{List}
use Prim.Native.Nat.{ℕ, zero, suc, ◌+◌, ◌<◌, ◌≤◌}
use native.Mathlib.Numerals.{add-one}
use native.Mathlib.Omega.{arith}
use lib.ListN.{length, get_or, set, replicate, length-set}
use lib.Seq.{get_or-set_same, get_or-set_other}
use borrow.Author.Tests.{eq-eqb, ne_eqb}
use Rattle.lists.proofs.Cases.{lt_or_ge, eq_or_ne}
use Rattle.lists.proofs.Padded.{replicate_read}
use Rattle.diagram.specs.Table.{Entry, Table, entry_at}
use Rattle.table.specs.Index.{bucket, last_in, Indexed, linked}

module _ (half : ℕ) (t : Table) where
  -- an entry of the bucket is the last one
  last_in_lem : (n b : ℕ) → bucket half (entry_at t n) ≡ b → last_in half t (suc n) b ≡ suc n
  unfolding last_in
  last_in_lem n b e = rw (eq-eqb (bucket half (entry_at t n)) b e)

  -- an entry of another changes nothing
  last_out : (n b : ℕ) → (bucket half (entry_at t n) ≡ b → ⊥) → last_in half t (suc n) b ≡ last_in half t n b
  unfolding last_in
  last_out n b e = rw (ne_eqb (bucket half (entry_at t n)) b e)

  last_zero : (b : ℕ) → last_in half t 0 b ≡ 0
  unfolding last_in
  last_zero b = refl

  pub last_le : (n b : ℕ) → last_in half t n b ≤ n
  last_le zero b = omega (arith, last_zero b)
  last_le (suc n) b =
      ⊎_elim
      (λ (e : bucket half (entry_at t n) ≡ b). omega (arith, last_in_lem n b e))
      (λ (e : bucket half (entry_at t n) ≡ b → ⊥). omega (arith, last_out n b e, last_le n b))
      (eq_or_ne (bucket half (entry_at t n)) b)

  -- it is itself in the bucket
  pub last_own : (n b : ℕ) → last_in half t (last_in half t n b) b ≡ last_in half t n b
  last_own zero b = rw (last_zero b) (last_zero b)
  last_own (suc n) b =
      ⊎_elim
      (λ (e : bucket half (entry_at t n) ≡ b). rw (last_in_lem n b e) (last_in_lem n b e))
      (λ (e : bucket half (entry_at t n) ≡ b → ⊥). rw (last_out n b e) (last_own n b))
      (eq_or_ne (bucket half (entry_at t n)) b)

  pub own_bucket : (n b : ℕ) → last_in half t (suc n) b ≡ suc n → bucket half (entry_at t n) ≡ b
  own_bucket n b own =
      ⊎_elim
      (λ (e : bucket half (entry_at t n) ≡ b). e)
      (λ (e : bucket half (entry_at t n) ≡ b → ⊥). absurd (omega (arith, last_out n b e, last_le n b)))
      (eq_or_ne (bucket half (entry_at t n)) b)

  -- no later one is
  pub last_above : (n b i : ℕ) → i < n → last_in half t n b ≤ i → bucket half (entry_at t i) ≡ b → ⊥
  last_above zero b i h le e = omega arith
  last_above (suc n) b i h le e =
      ⊎_elim
      (λ (q : bucket half (entry_at t n) ≡ b). omega (arith, last_in_lem n b q))
      (λ (q : bucket half (entry_at t n) ≡ b → ⊥).
      ⊎_elim
      (λ (g : i < n). last_above n b i g (omega (arith, last_out n b q)) e)
      (λ (g : n ≤ i). let z : i ≡ n = omega arith in q (rw (← z) e))
      (lt_or_ge i n))
      (eq_or_ne (bucket half (entry_at t n)) b)

-- tables that agree have one index
pub last_agree : (half : ℕ) (t u : Table) (n b : ℕ) → ((i : ℕ) → i < n → entry_at t i ≡ entry_at u i) → last_in half t n b ≡ last_in half u n b
unfolding last_in
last_agree half t u zero b h = refl
last_agree half t u (suc n) b h = rw (last_agree half t u n b (λ i l. h i (omega arith)), h n (omega arith))

pub indexed_agree : {half : ℕ} {t u : Table} {n : ℕ} {ix : List ℕ} → ((i : ℕ) → i < n → entry_at t i ≡ entry_at u i) → Indexed half t n ix → Indexed half u n ix
indexed_agree {half} {t} {u} {n} {ix} h x = record {
  heads = λ b l. x.heads b l ∙ last_agree half t u n b h;
  links = λ e l.
      x.links e l
      ∙ last_agree half t u e (bucket half (entry_at t e)) (λ i g. h i (omega arith))
      ∙ ap (λ (y : Entry). last_in half u e (bucket half y)) (h e l);
}

-- zeros are the index of no entries
pub indexed_none : (half : ℕ) (t : Table) (ix : List ℕ) → ix ≡ replicate (length ix) 0 → Indexed half t 0 ix
indexed_none half t ix e = record {
  heads = λ b l. ap (λ (y : List ℕ). get_or y b 0) e ∙ replicate_read (length ix) b 0 ∙ sym (last_zero half t b);
  links = λ i l. absurd (omega arith);
}

-- one entry more
module _ (half : ℕ) (t : Table) (n : ℕ) (ix : List ℕ) (x : Indexed half t n ix) (fits : half + n < length ix) (b : ℕ) (own : bucket half (entry_at t n) ≡ b) (small : b < half) where
  up : List ℕ
  up = set ix (half + n) (get_or ix b 0)

  up_long : length up ≡ length ix
  unfolding up
  up_long = length-set ix (half + n) (get_or ix b 0)

  apart : half + n ≢ b
  apart = omega arith

  head_next : (a : ℕ) → a < half → get_or (linked half ix b n) a 0 ≡ last_in half t (suc n) a
  unfolding up
  head_next a l =
      ⊎_elim
      (λ (e : b ≡ a).
      ap (λ (i : ℕ). get_or (linked half ix b n) i 0) (sym e)
      ∙ get_or-set_same up b (n + 1) 0 (omega (arith, up_long))
      ∙ add-one n
      ∙ sym (last_in_lem half t n a (own ∙ e)))
      (λ (e : b ≡ a → ⊥).
      get_or-set_other up b a (n + 1) 0 (λ q. e (sym q))
      ∙ get_or-set_other ix (half + n) a (get_or ix b 0) 0 (omega arith)
      ∙ x.heads a l
      ∙ sym (last_out half t n a (λ q. e (sym own ∙ q))))
      (eq_or_ne b a)

  link_next : (e : ℕ) → e < suc n → get_or (linked half ix b n) (half + e) 0 ≡ last_in half t e (bucket half (entry_at t e))
  unfolding up
  link_next e l =
      ⊎_elim
      (λ (g : e < n).
      get_or-set_other up b (half + e) (n + 1) 0 (omega arith)
      ∙ get_or-set_other ix (half + n) (half + e) (get_or ix b 0) 0 (omega arith)
      ∙ x.links e g)
      (λ (g : n ≤ e).
      let z : e ≡ n = omega arith in
      rw (z, own)
      (get_or-set_other up b (half + n) (n + 1) 0 apart
      ∙ get_or-set_same ix (half + n) (get_or ix b 0) 0 fits
      ∙ x.heads b small))
      (lt_or_ge e n)

  pub indexed_next : Indexed half t (suc n) (linked half ix b n)
  indexed_next = record { heads = head_next; links = link_next }
