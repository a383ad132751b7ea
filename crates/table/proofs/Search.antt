-- Laws of a search along a bucket.
use mathlib.Core.Path.{◌≡◌, ◌∙◌, ap, subst}
use mathlib.Core.Logic.{⊎_elim}
use mathlib.Core.List.{List}
use Prim.Native.Nat.{ℕ, suc, ◌+◌, ◌-◌, ◌<◌, ◌≤◌}
use native.Mathlib.Omega.{arith}
use lib.ListN.{get_or}
use Rattle.lists.proofs.Cases.{lt_or_ge}
use Rattle.diagram.specs.Table.{Entry, Table, entry_at}
use Rattle.table.specs.Index.{bucket, last_in, Indexed}
use Rattle.table.proofs.Index.{last_le, last_own, own_bucket, last_above}

-- the search has come down to e, which is 0 or one more than an entry of the bucket; x is not from there on
pub record Seeking (half : ℕ) (t : Table) (n : ℕ) (x : Entry) (e : ℕ) : Type 0 where
  pub within : e ≤ n
  pub own : last_in half t e (bucket half x) ≡ e
  pub passed : (i : ℕ) → i < n → e ≤ i → entry_at t i ≡ x → ⊥

module _ {half : ℕ} {t : Table} {n : ℕ} {x : Entry} where
  -- of an entry of the bucket, the one before it
  seeking_at : (m e : ℕ) → m ≤ n → e ≡ last_in half t m (bucket half x) → ((i : ℕ) → i < n → m ≤ i → entry_at t i ≡ x → ⊥) → Seeking half t n x e
  seeking_at m e le q passed = record {
    within = omega (arith, last_le half t m (bucket half x));
    own = rw q (last_own half t m (bucket half x));
    passed = λ i l g z.
        ⊎_elim
        (λ (s : i < m). last_above half t m (bucket half x) i s (omega arith) (ap (bucket half) z))
        (λ (s : m ≤ i). passed i l s z)
        (lt_or_ge i m);
  }

  pub seeking_start : {ix : List ℕ} → Indexed half t n ix → (b : ℕ) → b ≡ bucket half x → b < half → Seeking half t n x (get_or ix b 0)
  seeking_start {ix} h b e l = seeking_at n (get_or ix b 0) (omega arith) (rw (← e) (h.heads b l)) (λ i g s. absurd (omega arith))

  -- the entry behind e
  last : (e : ℕ) → (e ≡ 0 → ⊥) → Seeking half t n x e → bucket half (entry_at t (e - 1)) ≡ bucket half x
  last e some s =
      let z : e ≡ suc (e - 1) = omega arith in
      own_bucket half t (e - 1) (bucket half x) (subst (λ (m : ℕ). last_in half t m (bucket half x) ≡ m) z s.own)

  pub seeking_next : {ix : List ℕ} → Indexed half t n ix → (e : ℕ) → (e ≡ 0 → ⊥) → (entry_at t (e - 1) ≡ x → ⊥) → Seeking half t n x e
      → Seeking half t n x (get_or ix (half + (e - 1)) 0)
  seeking_next {ix} h e some other s =
      let below : e ≤ n = s.within in
      seeking_at (e - 1) (get_or ix (half + (e - 1)) 0) (omega arith)
      (h.links (e - 1) (omega arith) ∙ ap (last_in half t (e - 1)) (last e some s))
      (λ i l g z.
      ⊎_elim
      (λ (q : i < e). let same : i ≡ e - 1 = omega arith in other (rw (← same) z))
      (λ (q : e ≤ i). s.passed i l q z)
      (lt_or_ge i e))

  -- it falls
  pub seeking_less : {ix : List ℕ} → Indexed half t n ix → (e : ℕ) → (e ≡ 0 → ⊥) → Seeking half t n x e → get_or ix (half + (e - 1)) 0 < e
  seeking_less h e some s =
      let below : e ≤ n = s.within in
      omega (arith, h.links (e - 1) (omega arith), last_le half t (e - 1) (bucket half (entry_at t (e - 1))))
