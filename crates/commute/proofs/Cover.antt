-- A table covered by another under a fixing: each entry's function is some entry's function of the other, read at the fixed patterns.
use mathlib.Core.Path.{◌≡◌, refl, sym, ◌∙◌, ap, subst}
use mathlib.Core.Logic.{◌⊎◌, inl, inr, ⊎_elim}
use mathlib.Core.List.{List, [], ◌∷◌, map}
use Prim.Native.Nat.{ℕ, zero, suc, ◌+◌, ◌*◌, ◌/◌, ◌^◌, ◌<◌, ◌≤◌}
use native.Mathlib.Nat.{div-lt_iff_lt-mul}
use native.Mathlib.Omega.{arith}
use lib.ListN.{length}
use lib.Pow.{pow-add, pow_pos}
use Rattle.lists.proofs.Cases.{lt_or_ge, eq_or_ne}
use Rattle.format.specs.Fixing.{Setting, free, low, high, Fixing}
use Rattle.diagram.specs.Pattern.{most_letters, patterns}
use Rattle.diagram.specs.Table.{Entry, Table, terminal_letter, terminal, branch, entry_at, number_from, number_at}
use Rattle.diagram.specs.Store.{Stored, add, join, find, store, fresh}
use Rattle.diagram.proofs.Sound.{Sound}
use Rattle.diagram.specs.Extends.{Extends}
use Rattle.diagram.proofs.Add.{extends_refl, extends_trans, added, find_cases, add_found, add_missing}
use Rattle.diagram.proofs.Number.{number_at_extends, number_from_lem, number_terminal}
use Rattle.diagram.proofs.Store.{IsStored, store_stored, store_suc, store_zero, store_ext, store_ignores, join_same, join_differ, join_extends}
use Rattle.diagram.proofs.Canonical.{canonical}
use Rattle.rules.specs.Run.{store_all}
use Rattle.commute.specs.Demand.{fixed_pattern}
use Rattle.commute.proofs.Fixed.{set_bit, pattern_lt}
use Rattle.commute.proofs.Pigeon.{pigeon}
use Rattle.commute.proofs.Later.{later_by, fixed_from_lem, even_low, even_high, odd_low, odd_high}

-- entry e of t has under the fixing the function of entry i of t'
pub record Match (φ : Fixing) (letters : ℕ) (t' t : Table) (i e : ℕ) : Type 0 where
  pub within : e < length t
  pub number : (q : ℕ) → q < patterns letters → number_at letters t' i q ≡ number_at letters t e (fixed_pattern φ letters q)

-- every entry of t' has such an entry in t
pub record Covered (φ : Fixing) (letters : ℕ) (t' t : Table) : Type 0 where
  pub by : (i : ℕ) → i < length t' → (e : ℕ) × Match φ letters t' t i e

-- the entry that covers entry i, and something where there is none
choice : {φ : Fixing} {letters : ℕ} {t' t : Table} → Covered φ letters t' t → (i : ℕ) → (i < length t') ⊎ (length t' ≤ i) → ℕ
choice c i (inl h) = (c.by i h).0
choice c i (inr h) = 0

choice_covers : {φ : Fixing} {letters : ℕ} {t' t : Table} (c : Covered φ letters t' t) (i : ℕ) (d : (i < length t') ⊎ (length t' ≤ i)) → i < length t'
    → Match φ letters t' t i (choice c i d)
unfolding choice
choice_covers c i (inl h) g = (c.by i h).1
choice_covers c i (inr h) g = absurd (omega arith)

-- adding gains at most the answer's entry
add_gains : (x : Entry) (t : Table) (i : ℕ) → i < length (add x t).table → (i < length t) ⊎ (i ≡ (add x t).entry)
add_gains x t i =
    ⊎_elim
    (λ (h : find x t < length t). rw (add_found x t h) (λ l. inl l))
    (λ (none : (j : ℕ) → j < length t → entry_at t j ≡ x → ⊥).
    let longest : length (add x t).table ≤ suc (length t) = (added x t).longest in
    let last : (add x t).entry ≡ length t = rw (add_missing x t none) refl in
    λ l. ⊎_elim (λ (g : i < length t). inl g) (λ (g : length t ≤ i). inr (omega arith)) (lt_or_ge i (length t)))
    (find_cases x t)

-- joining gains at most the joined function's entry
join_gains : (k : ℕ) (a b : Stored) (i : ℕ) → i < length (join k a b).table → (i < length b.table) ⊎ (i ≡ (join k a b).entry)
join_gains k a b i =
    ⊎_elim
    (λ (e : a.entry ≡ b.entry). rw (join_same k a b e) (λ l. inl l))
    (λ (n : a.entry ≡ b.entry → ⊥). rw (join_differ k a b n) (add_gains (branch k a.entry b.entry) b.table i))
    (eq_or_ne a.entry b.entry)

module _ (φ : Fixing) {letters : ℕ} (few : letters ≤ most_letters) where
  -- a covered table has no more entries
  pub covered_length : (t' t : Table) → Sound letters t' → Covered φ letters t' t → length t' ≤ length t
  covered_length t' t s c =
      let f : ℕ → ℕ = λ i. choice c i (lt_or_ge i (length t')) in
      let covers : (i : ℕ) → i < length t' → Match φ letters t' t i (f i) = λ i h. choice_covers c i (lt_or_ge i (length t')) h in
      pigeon (length t') (length t) f (λ i h. (covers i h).within) (λ i j hi hj e.
      (canonical t' i j few s hi hj).0 (λ q h.
      (covers i hi).number q h ∙ ap (λ (x : ℕ). number_at letters t x (fixed_pattern φ letters q)) e ∙ sym ((covers j hj).number q h)))

  -- a match stays one in extensions
  match_extends : (t' u' t u : Table) (i e : ℕ) → Sound letters t' → Sound letters t → Extends t' u' → Extends t u → i < length t'
      → Match φ letters t' t i e → Match φ letters u' u i e
  match_extends t' u' t u i e s' s x' x h m = record {
    within = omega (arith, m.within, x.longer);
    number = λ q l.
        number_at_extends i q few s' x' h
        ∙ m.number q l
        ∙ sym (number_at_extends e (fixed_pattern φ letters q) few s x m.within);
  }

  -- a table that gains entries covers what it covered
  pub covered_extends : (t' t u : Table) → Sound letters t' → Sound letters t → Extends t u → Covered φ letters t' t → Covered φ letters t' u
  covered_extends t' t u s' s x c = record { by = λ i h. ((c.by i h).0, match_extends t' t' t u i (c.by i h).0 s' s (extends_refl t') x h (c.by i h).1) }

  -- two entries that begin at letter k and hold there a function and the fixed function
  level_match : (n k : ℕ) (f : ℕ → ℕ) (t' t : Table) (i e : ℕ) → n + k ≡ letters → k ≤ (entry_at t' i).letter → k ≤ (entry_at t e).letter → e < length t
      → ((p : ℕ) → p < 2 ^ n → number_from n k t' i p ≡ f (fixed_pattern (later_by k φ) n p))
      → ((p : ℕ) → p < 2 ^ n → number_from n k t e p ≡ f p)
      → Match φ letters t' t i e
  level_match n k f t' t i e sum ki ke within is' is =
      let back : k + n ≡ letters = omega arith in
      let parts : 2 ^ letters ≡ 2 ^ n * 2 ^ k = ap (λ (m : ℕ). 2 ^ m) (sym sum) ∙ pow-add 2 n k in
      record {
        within = within;
        number = λ q h.
            let small : q / 2 ^ k < 2 ^ n = (div-lt_iff_lt-mul (pow_pos k)).1 (rw (← parts) h) in
            number_from_lem letters n k t' i q back ki
            ∙ is' (q / 2 ^ k) small
            ∙ sym (is (fixed_pattern (later_by k φ) n (q / 2 ^ k)) (pattern_lt (later_by k φ) n n (q / 2 ^ k) (omega arith) small))
            ∙ ap (number_from n k t e) (sym (fixed_from_lem φ letters n k q sum))
            ∙ sym (number_from_lem letters n k t e (fixed_pattern φ letters q) back ke);
      }

  -- the stored function's own entries match
  stored_match : (n k : ℕ) (f : ℕ → ℕ) (t' t : Table) (s' s : Stored) → n + k ≡ letters
      → IsStored letters n k (λ p. f (fixed_pattern (later_by k φ) n p)) t' s' → IsStored letters n k f t s
      → Match φ letters s'.table s.table s'.entry s.entry
  stored_match n k f t' t s' s sum is' is =
      level_match n k f s'.table s.table s'.entry s.entry sum is'.from is.from is.within is'.number is.number

  -- a covered table that gains one matched entry is covered by what the other becomes
  covered_gains : (t' t u : Table) (s' : Stored) (e : ℕ) → Sound letters t' → Sound letters t → Extends t' s'.table → Extends t u
      → ((i : ℕ) → i < length s'.table → (i < length t') ⊎ (i ≡ s'.entry))
      → Match φ letters s'.table u s'.entry e → Covered φ letters t' t → Covered φ letters s'.table u
  covered_gains t' t u s' e sound' sound x' x gains m c = record {
    by = λ i h.
        ⊎_elim
        (λ (l : i < length t'). ((c.by i l).0, match_extends t' s'.table t u i (c.by i l).0 sound' sound x' x l (c.by i l).1))
        (λ (l : i ≡ s'.entry). (e, subst (λ (j : ℕ). Match φ letters s'.table u j e) (sym l) m))
        (gains i h);
  }

  -- the function of letters from letter k on, fixed
  abbrev fixed_from : ℕ → ℕ → (ℕ → ℕ) → ℕ → ℕ
  fixed_from n k f p = f (fixed_pattern (later_by k φ) n p)

  -- storing a function and the fixed function keeps a table covered
  abbrev StoreCovered : ℕ → ℕ → Type 0
  StoreCovered n k =
      (f : ℕ → ℕ) (t' t : Table) → Sound letters t' → Sound letters t → Covered φ letters t' t
      → Covered φ letters (store n k (fixed_from n k f) t').table (store n k f t).table

  covered_terminal : (k : ℕ) → k ≡ letters → StoreCovered 0 k
  covered_terminal k sum f t' t s' s c =
      let x' : IsStored letters 0 k (fixed_from 0 k f) t' (store 0 k (fixed_from 0 k f) t') = store_stored 0 k (fixed_from 0 k f) t' few s' (omega arith) in
      let x : IsStored letters 0 k f t (store 0 k f t) = store_stored 0 k f t few s (omega arith) in
      covered_gains t' t (store 0 k f t).table (store 0 k (fixed_from 0 k f) t') (store 0 k f t).entry s' s x'.extends x.extends
      (rw (store_zero k (fixed_from 0 k f) t') (add_gains (terminal (fixed_from 0 k f 0)) t'))
      (stored_match 0 k f t' t (store 0 k (fixed_from 0 k f) t') (store 0 k f t) (omega arith) x' x) c

  module _ (n k : ℕ) (sum : suc n + k ≡ letters) (below : StoreCovered n (suc k)) (f : ℕ → ℕ) (t' t : Table) (s' : Sound letters t') (s : Sound letters t)
      (c : Covered φ letters t' t) where
    abbrev ψ : Fixing
    ψ = later_by k φ

    abbrev whole : ℕ → ℕ
    whole = fixed_from (suc n) k f

    abbrev low_half : ℕ → ℕ
    low_half q = f (2 * q)

    abbrev high_half : ℕ → ℕ
    high_half q = f (2 * q + 1)

    abbrev low_part : Stored
    low_part = store n (suc k) low_half t

    abbrev high_part : Stored
    high_part = store n (suc k) high_half low_part.table

    low_stored : IsStored letters n (suc k) low_half t low_part
    low_stored = store_stored n (suc k) low_half t few s (omega arith)

    high_stored : IsStored letters n (suc k) high_half low_part.table high_part
    high_stored = store_stored n (suc k) high_half low_part.table few low_stored.sound (omega arith)

    high_extends : Extends high_part.table (store (suc n) k f t).table
    high_extends = rw (store_suc n k f t) (join_extends k low_part high_part)

    -- the letter is free: low part, high part, root
    covered_free : set_bit (ψ 0) 0 ≡ 0 → set_bit (ψ 0) 1 ≡ 1 → Covered φ letters (store (suc n) k whole t').table (store (suc n) k f t).table
    covered_free e o =
        let a' : Stored = store n (suc k) (λ q. whole (2 * q)) t' in
        let b' : Stored = store n (suc k) (λ q. whole (2 * q + 1)) a'.table in
        let sa' : IsStored letters n (suc k) (λ q. whole (2 * q)) t' a' = store_stored n (suc k) (λ q. whole (2 * q)) t' few s' (omega arith) in
        let sb' : IsStored letters n (suc k) (λ q. whole (2 * q + 1)) a'.table b' = store_stored n (suc k) (λ q. whole (2 * q + 1)) a'.table few sa'.sound (omega arith) in
        let ca : Covered φ letters a'.table low_part.table =
        rw (store_ext n (suc k) (λ q. whole (2 * q)) (fixed_from n (suc k) low_half) t' (λ q h. ap f (even_low ψ n q e))) (below low_half t' t s' s c) in
        let cb : Covered φ letters b'.table high_part.table =
        rw (store_ext n (suc k) (λ q. whole (2 * q + 1)) (fixed_from n (suc k) high_half) a'.table (λ q h. ap f (odd_high ψ n q o)))
        (below high_half a'.table low_part.table sa'.sound low_stored.sound ca) in
        let x' : IsStored letters (suc n) k whole t' (store (suc n) k whole t') = store_stored (suc n) k whole t' few s' (omega arith) in
        let x : IsStored letters (suc n) k f t (store (suc n) k f t) = store_stored (suc n) k f t few s (omega arith) in
        covered_gains b'.table high_part.table (store (suc n) k f t).table (store (suc n) k whole t') (store (suc n) k f t).entry sb'.sound high_stored.sound
        (rw (store_suc n k whole t') (join_extends k a' b')) high_extends
        (rw (store_suc n k whole t') (join_gains k a' b'))
        (stored_match (suc n) k f t' t (store (suc n) k whole t') (store (suc n) k f t) sum x' x) cb

    -- the letter is low: both parts of the fixed function are its low part
    covered_low : set_bit (ψ 0) 0 ≡ 0 → set_bit (ψ 0) 1 ≡ 0 → Covered φ letters (store (suc n) k whole t').table (store (suc n) k f t).table
    covered_low e o =
        let same : store (suc n) k whole t' ≡ store n (suc k) (fixed_from n (suc k) low_half) t' =
        store_ignores n k whole t' few s' sum (λ q h. ap f (even_low ψ n q e ∙ sym (odd_low ψ n q o)))
        ∙ store_ext n (suc k) (λ q. whole (2 * q)) (fixed_from n (suc k) low_half) t' (λ q h. ap f (even_low ψ n q e)) in
        rw same
        (covered_extends (store n (suc k) (fixed_from n (suc k) low_half) t').table low_part.table (store (suc n) k f t).table
        (store_stored n (suc k) (fixed_from n (suc k) low_half) t' few s' (omega arith)).sound
        low_stored.sound (extends_trans high_stored.extends high_extends) (below low_half t' t s' s c))

    -- the letter is high: both parts are its high part
    covered_high : set_bit (ψ 0) 0 ≡ 1 → set_bit (ψ 0) 1 ≡ 1 → Covered φ letters (store (suc n) k whole t').table (store (suc n) k f t).table
    covered_high e o =
        let same : store (suc n) k whole t' ≡ store n (suc k) (fixed_from n (suc k) high_half) t' =
        store_ignores n k whole t' few s' sum (λ q h. ap f (even_high ψ n q e ∙ sym (odd_high ψ n q o)))
        ∙ store_ext n (suc k) (λ q. whole (2 * q)) (fixed_from n (suc k) high_half) t' (λ q h. ap f (even_high ψ n q e)) in
        rw same
        (covered_extends (store n (suc k) (fixed_from n (suc k) high_half) t').table high_part.table (store (suc n) k f t).table
        (store_stored n (suc k) (fixed_from n (suc k) high_half) t' few s' (omega arith)).sound
        high_stored.sound high_extends
        (below high_half t' low_part.table s' low_stored.sound (covered_extends t' t low_part.table s' s low_stored.extends c)))

    covered_letter : (b : Setting) → ψ 0 ≡ b → Covered φ letters (store (suc n) k whole t').table (store (suc n) k f t).table
    covered_letter free e = covered_free (ap (λ (x : Setting). set_bit x 0) e) (ap (λ (x : Setting). set_bit x 1) e)
    covered_letter low e = covered_low (ap (λ (x : Setting). set_bit x 0) e) (ap (λ (x : Setting). set_bit x 1) e)
    covered_letter high e = covered_high (ap (λ (x : Setting). set_bit x 0) e) (ap (λ (x : Setting). set_bit x 1) e)

  covered_from : (n k : ℕ) → n + k ≡ letters → StoreCovered n k
  covered_from zero k sum f t' t s' s c = covered_terminal k (omega arith) f t' t s' s c
  covered_from (suc n) k sum f t' t s' s c = covered_letter n k sum (covered_from n (suc k) (omega arith)) f t' t s' s c (later_by k φ 0) refl

  -- over all letters
  pub covered_store : (f : ℕ → ℕ) (t' t : Table) → Sound letters t' → Sound letters t → Covered φ letters t' t
      → Covered φ letters (store letters 0 (λ q. f (fixed_pattern φ letters q)) t').table (store letters 0 f t).table
  covered_store f t' t s' s c = covered_from letters 0 (omega arith) f t' t s' s c

  -- functions of each number of a list, stored one after the other
  pub covered_all : (f : ℕ → ℕ → ℕ) (ns : List ℕ) (t' t : Table) → Sound letters t' → Sound letters t → Covered φ letters t' t
      → Covered φ letters (store_all letters (map (λ (n : ℕ) (q : ℕ). f n (fixed_pattern φ letters q)) ns) t').table (store_all letters (map f ns) t).table
  unfolding store_all
  covered_all f [] t' t s' s c = c
  covered_all f (n ∷ ns) t' t s' s c =
      let f' : ℕ → ℕ = λ q. f n (fixed_pattern φ letters q) in
      covered_all f ns (store letters 0 f' t').table (store letters 0 (f n) t).table
      (store_stored letters 0 f' t' few s' (omega arith)).sound (store_stored letters 0 (f n) t few s (omega arith)).sound
      (covered_store (f n) t' t s' s c)

  -- the fresh table covers itself
  pub covered_fresh : Covered φ letters fresh fresh
  covered_fresh = record { by = λ i h. (i, record { within = h; number = λ q l. number i h q ∙ sym (number i h (fixed_pattern φ letters q)) }) }
    where
      terminals : (i : ℕ) → i < 3 → (entry_at fresh i).letter ≡ terminal_letter
      terminals zero h = refl
      terminals (suc zero) h = refl
      terminals (suc (suc zero)) h = refl
      terminals (suc (suc (suc i))) h = absurd (omega arith)

      number : (i : ℕ) → i < 3 → (q : ℕ) → number_at letters fresh i q ≡ (entry_at fresh i).low
      number i h q = number_terminal letters 0 fresh i q (omega arith) (terminals i h)
