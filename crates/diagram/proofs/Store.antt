-- What storing a function gives, and when it adds nothing.
use mathlib.Core.Path.{◌≡◌, refl, sym, ◌∙◌, ap}
use mathlib.Core.Logic.{⊎_elim}
use Prim.Native.Nat.{ℕ, zero, suc, ◌+◌, ◌*◌, ◌/◌, ◌^◌, ◌<◌, ◌≤◌}
use native.Mathlib.Nat.{pow-succ', div-one, div-div-eq-div-mul}
use native.Mathlib.Omega.{arith}
use lib.ListN.{length}
use borrow.Author.Tests.{eq-eqb, ne_eqb}
use Rattle.lists.proofs.Cases.{eq_or_ne}
use Rattle.diagram.specs.Pattern.{most_letters}
use Rattle.diagram.specs.Table.{Entry, Table, terminal_letter, terminal, branch, entry_at, part_of, number_from}
use Rattle.diagram.specs.Store.{Stored, stored, add, join, both, store}
use Rattle.diagram.proofs.Sound.{Branch, Legal, Sound, entry_path, past_terminal}
use Rattle.diagram.specs.Extends.{Extends}
use Rattle.diagram.proofs.Add.{extends_refl, extends_trans, Added, added, add_present, add_again, add_sound}
use Rattle.diagram.proofs.Number.{part_low, part_high, part_self, part_later, part_within, part_larger, number_end, number_extends, number_halves, number_low, number_high}

-- a terminal may always be added
pub terminal_legal : (letters : ℕ) (t : Table) (i v : ℕ) → Legal letters t i (terminal v)
terminal_legal letters t i v = record { leaf = λ l. refl; node = λ n. absurd (n refl) }

-- a branch may be added whose parts differ and have larger letters
pub branch_legal_lem : (letters : ℕ) (t : Table) (i k a b : ℕ) → letters ≤ most_letters → k < letters → a < i → b < i
    → k < (entry_at t a).letter → k < (entry_at t b).letter → (a ≡ b → ⊥) → Legal letters t i (branch k a b)
branch_legal_lem letters t i k a b few small la lb ka kb ne = record {
  leaf = λ l. absurd (omega arith);
  node = λ n. record { letter_in = small; low_earlier = la; low_later = ka; high_earlier = lb; high_later = kb; differ = ne };
}

-- equal parts: no entry is needed
pub join_same : (k : ℕ) (a b : Stored) → a.entry ≡ b.entry → join k a b ≡ b
unfolding join
join_same k a b e = rw (eq-eqb a.entry b.entry e)

-- different parts: the branch
pub join_differ : (k : ℕ) (a b : Stored) → (a.entry ≡ b.entry → ⊥) → join k a b ≡ add (branch k a.entry b.entry) b.table
unfolding join
join_differ k a b n = rw (ne_eqb a.entry b.entry n)

-- joining keeps what its second part has
pub join_extends : (k : ℕ) (a b : Stored) → Extends b.table (join k a b).table
join_extends k a b =
    ⊎_elim
    (λ (e : a.entry ≡ b.entry). rw (join_same k a b e) (extends_refl b.table))
    (λ (n : a.entry ≡ b.entry → ⊥). rw (join_differ k a b n) (added (branch k a.entry b.entry) b.table).extends)
    (eq_or_ne a.entry b.entry)

-- no letters left: the terminal
pub store_zero : (k : ℕ) (f : ℕ → ℕ) (t : Table) → store 0 k f t ≡ add (terminal (f 0)) t
unfolding store
store_zero k f t = refl

-- the first letter: the low half, the high half in the table that it left, and the two joined
pub store_suc : (n k : ℕ) (f : ℕ → ℕ) (t : Table)
    → store (suc n) k f t ≡ join k (store n (suc k) (λ q. f (2 * q)) t) (store n (suc k) (λ q. f (2 * q + 1)) (store n (suc k) (λ q. f (2 * q)) t).table)
unfolding store both
store_suc n k f t = refl

-- a function of the n letters from letter k on is stored in an extension of a table
pub record IsStored (letters n k : ℕ) (f : ℕ → ℕ) (t : Table) (s : Stored) : Type 0 where
  pub sound : Sound letters s.table
  pub extends : Extends t s.table
  pub within : s.entry < length s.table
  pub from : k ≤ (entry_at s.table s.entry).letter
  pub number : (p : ℕ) → p < 2 ^ n → number_from n k s.table s.entry p ≡ f p

-- a number is stored by its terminal
pub terminal_stored : {letters : ℕ} (k : ℕ) (f : ℕ → ℕ) (t : Table) → letters ≤ most_letters → Sound letters t → k ≤ letters → IsStored letters 0 k f t (add (terminal (f 0)) t)
terminal_stored {letters} k f t few s le =
    let u : Stored = add (terminal (f 0)) t in
    let a : Added (terminal (f 0)) t u = added (terminal (f 0)) t in
    record {
      sound = add_sound (terminal (f 0)) t s (terminal_legal letters t (length t) (f 0));
      extends = a.extends;
      within = a.within;
      from = rw a.holds (omega arith);
      number = λ p h.
          let z : p ≡ 0 = omega arith in
          number_end k u.table u.entry p ∙ ap (λ (y : Entry). y.low) a.holds ∙ ap f (sym z);
    }

-- two stored halves, joined
pub join_stored : {letters : ℕ} (n k : ℕ) (f : ℕ → ℕ) (t : Table) (a b : Stored) → letters ≤ most_letters → suc n + k ≤ letters
    → IsStored letters n (suc k) (λ q. f (2 * q)) t a → IsStored letters n (suc k) (λ q. f (2 * q + 1)) a.table b
    → IsStored letters (suc n) k f t (join k a b)
join_stored {letters} n k f t a b few le sa sb =
    let u : Table = b.table in
    let i : ℕ = a.entry in
    let j : ℕ = b.entry in
    let hi : i < length u = omega (arith, sa.within, sb.extends.longer) in
    let ki : k < (entry_at u i).letter = rw (sb.extends.kept i sa.within) sa.from in
    let low : (q : ℕ) → q < 2 ^ n → number_from n (suc k) u i q ≡ f (2 * q) =
    λ q h. number_extends n (suc k) i q sa.sound sb.extends (omega arith) sa.within ∙ sa.number q h in
    ⊎_elim
    (λ (e : i ≡ j). rw (join_same k a b e) record {
      sound = sb.sound;
      extends = extends_trans sa.extends sb.extends;
      within = sb.within;
      from = omega (arith, sb.from);
      number = number_halves n k u j f
          (λ q h. ap (λ (x : ℕ). number_from n (suc k) u x q) (part_later u k j 0 sb.from ∙ sym e) ∙ low q h)
          (λ q h. ap (λ (x : ℕ). number_from n (suc k) u x q) (part_later u k j 1 sb.from) ∙ sb.number q h);
    })
    (λ (ne : i ≡ j → ⊥).
    let x : Entry = branch k i j in
    let c : Stored = add x u in
    let d : Added x u c = added x u in
    let letter : (entry_at c.table c.entry).letter ≡ k = ap (λ (y : Entry). y.letter) d.holds in
    rw (join_differ k a b ne) record {
      sound = add_sound x u sb.sound (branch_legal_lem letters u (length u) k i j few (omega arith) hi sb.within ki sb.from ne);
      extends = extends_trans sa.extends (extends_trans sb.extends d.extends);
      within = d.within;
      from = omega arith;
      number = number_halves n k c.table c.entry f
          (λ q h.
          ap (λ (y : ℕ). number_from n (suc k) c.table y q) (part_low c.table k c.entry letter ∙ ap (λ (y : Entry). y.low) d.holds)
          ∙ number_extends n (suc k) i q sb.sound d.extends (omega arith) hi
          ∙ low q h)
          (λ q h.
          ap (λ (y : ℕ). number_from n (suc k) c.table y q) (part_high c.table k c.entry letter ∙ ap (λ (y : Entry). y.high) d.holds)
          ∙ number_extends n (suc k) j q sb.sound d.extends (omega arith) sb.within
          ∙ sb.number q h);
    })
    (eq_or_ne i j)

-- storing stores
pub store_stored : {letters : ℕ} (n k : ℕ) (f : ℕ → ℕ) (t : Table) → letters ≤ most_letters → Sound letters t → n + k ≤ letters → IsStored letters n k f t (store n k f t)
store_stored zero k f t few s le = rw (store_zero k f t) (terminal_stored k f t few s (omega arith))
store_stored {letters} (suc n) k f t few s le =
    let a : Stored = store n (suc k) (λ q. f (2 * q)) t in
    let sa : IsStored letters n (suc k) (λ q. f (2 * q)) t a = store_stored n (suc k) (λ q. f (2 * q)) t few s (omega arith) in
    rw (store_suc n k f t)
    (join_stored n k f t a (store n (suc k) (λ q. f (2 * q + 1)) a.table) few le sa (store_stored n (suc k) (λ q. f (2 * q + 1)) a.table few sa.sound (omega arith)))

-- functions that agree are stored alike
pub store_ext : (n k : ℕ) (f g : ℕ → ℕ) (t : Table) → ((p : ℕ) → p < 2 ^ n → f p ≡ g p) → store n k f t ≡ store n k g t
store_ext zero k f g t h = store_zero k f t ∙ ap (λ (v : ℕ). add (terminal v) t) (h 0 (omega arith)) ∙ sym (store_zero k g t)
store_ext (suc n) k f g t h =
    let two : 2 ^ suc n ≡ 2 * 2 ^ n = pow-succ' 2 n in
    let a : Stored = store n (suc k) (λ q. f (2 * q)) t in
    let b : Stored = store n (suc k) (λ q. g (2 * q)) t in
    let low : a ≡ b = store_ext n (suc k) (λ q. f (2 * q)) (λ q. g (2 * q)) t (λ q l. h (2 * q) (omega arith)) in
    store_suc n k f t
    ∙ ap (λ (c : Stored). join k c (store n (suc k) (λ q. f (2 * q + 1)) c.table)) low
    ∙ ap (join k b) (store_ext n (suc k) (λ q. f (2 * q + 1)) (λ q. g (2 * q + 1)) b.table (λ q l. h (2 * q + 1) (omega arith)))
    ∙ sym (store_suc n k g t)

-- the parts of an entry, joined, are the entry
pub join_parts : {letters : ℕ} (t : Table) (k e : ℕ) → Sound letters t → k < terminal_letter → e < length t → join k (stored t (part_of t k 0 e)) (stored t (part_of t k 1 e)) ≡ stored t e
join_parts {letters} t k e s small h =
    ⊎_elim
    (λ (q : (entry_at t e).letter ≡ k).
    let x : Entry = entry_at t e in
    let b : Branch letters t e x = (s.legal e h).node (λ z. omega arith) in
    rw (part_low t k e q, part_high t k e q)
    (join_differ k (stored t x.low) (stored t x.high) b.differ ∙ add_present t (branch k x.low x.high) e s h (entry_path x (branch k x.low x.high) q refl refl)))
    (λ (n : (entry_at t e).letter ≡ k → ⊥). rw (part_self t k e 0 n, part_self t k e 1 n) (join_same k (stored t e) (stored t e) refl))
    (eq_or_ne (entry_at t e).letter k)

-- storing what is there adds nothing
pub store_present : {letters : ℕ} (n k : ℕ) (f : ℕ → ℕ) (t : Table) (e : ℕ) → letters ≤ most_letters → Sound letters t → n + k ≡ letters → e < length t → k ≤ (entry_at t e).letter
    → ((p : ℕ) → p < 2 ^ n → number_from n k t e p ≡ f p) → store n k f t ≡ stored t e
store_present {letters} zero k f t e few s sum h le same =
    let low : f 0 ≡ (entry_at t e).low = sym (same 0 (omega arith)) ∙ number_end k t e 0 in
    store_zero k f t ∙ add_present t (terminal (f 0)) e s h (past_terminal t e s h (omega arith) ∙ ap terminal (sym low))
store_present {letters} (suc n) k f t e few s sum h le same =
    let a : ℕ = part_of t k 0 e in
    let b : ℕ = part_of t k 1 e in
    let small : k < terminal_letter = omega arith in
    let low : store n (suc k) (λ q. f (2 * q)) t ≡ stored t a =
    store_present n (suc k) (λ q. f (2 * q)) t a few s (omega arith) (part_within t k e 0 s small h) (part_larger t k e 0 s small h le) (number_low n k t e f same) in
    let high : store n (suc k) (λ q. f (2 * q + 1)) t ≡ stored t b =
    store_present n (suc k) (λ q. f (2 * q + 1)) t b few s (omega arith) (part_within t k e 1 s small h) (part_larger t k e 1 s small h le) (number_high n k t e f same) in
    store_suc n k f t
    ∙ ap (λ (c : Stored). join k c (store n (suc k) (λ q. f (2 * q + 1)) c.table)) low
    ∙ ap (join k (stored t a)) high
    ∙ join_parts t k e s small h

-- a constant is stored by its terminal
pub store_constant : (n k v : ℕ) (t : Table) → store n k (λ _. v) t ≡ add (terminal v) t
store_constant zero k v t = store_zero k (λ _. v) t
store_constant (suc n) k v t =
    let a : Stored = add (terminal v) t in
    store_suc n k (λ _. v) t
    ∙ ap (λ (c : Stored). join k c (store n (suc k) (λ _. v) c.table)) (store_constant n (suc k) v t)
    ∙ ap (join k a) (store_constant n (suc k) v a.table ∙ add_again (terminal v) t)
    ∙ join_same k a a refl

-- storing a second time adds nothing
pub store_again : {letters : ℕ} (n k : ℕ) (f : ℕ → ℕ) (t : Table) → letters ≤ most_letters → Sound letters t → n + k ≡ letters
    → store n k f (store n k f t).table ≡ store n k f t
store_again n k f t few s sum =
    let a : IsStored _ n k f t (store n k f t) = store_stored n k f t few s (omega arith) in
    store_present n k f (store n k f t).table (store n k f t).entry few a.sound sum a.within a.from a.number

-- a function that ignores a letter is stored from the next letter on
pub store_ignores : {letters : ℕ} (n k : ℕ) (f : ℕ → ℕ) (t : Table) → letters ≤ most_letters → Sound letters t → suc n + k ≡ letters
    → ((q : ℕ) → q < 2 ^ n → f (2 * q) ≡ f (2 * q + 1)) → store (suc n) k f t ≡ store n (suc k) (λ q. f (2 * q)) t
store_ignores n k f t few s sum h =
    let a : Stored = store n (suc k) (λ q. f (2 * q)) t in
    store_suc n k f t
    ∙ ap (join k a) (sym (store_ext n (suc k) (λ q. f (2 * q)) (λ q. f (2 * q + 1)) a.table h) ∙ store_again n (suc k) (λ q. f (2 * q)) t few s (omega arith))
    ∙ join_same k a a refl

-- a function whose halves are known is stored by them
pub store_step : (n k : ℕ) (f low high : ℕ → ℕ) (t : Table) → ((q : ℕ) → q < 2 ^ n → f (2 * q) ≡ low q) → ((q : ℕ) → q < 2 ^ n → f (2 * q + 1) ≡ high q)
    → store (suc n) k f t ≡ join k (store n (suc k) low t) (store n (suc k) high (store n (suc k) low t).table)
store_step n k f low high t hl hh =
    store_suc n k f t
    ∙ ap (λ (c : Stored). join k c (store n (suc k) (λ q. f (2 * q + 1)) c.table)) (store_ext n (suc k) (λ q. f (2 * q)) low t hl)
    ∙ ap (join k (store n (suc k) low t)) (store_ext n (suc k) (λ q. f (2 * q + 1)) high (store n (suc k) low t).table hh)

-- a function with one number is stored by its terminal
pub store_number : (n k v : ℕ) (f : ℕ → ℕ) (t : Table) → ((p : ℕ) → p < 2 ^ n → f p ≡ v) → store n k f t ≡ add (terminal v) t
store_number n k v f t h = store_ext n k f (λ _. v) t h ∙ store_constant n k v t

-- a function that ignores m letters is stored from the letter after them on
pub store_skip : {letters : ℕ} (m n k : ℕ) (f g : ℕ → ℕ) (t : Table) → letters ≤ most_letters → Sound letters t → m + n + k ≡ letters
    → ((p : ℕ) → p < 2 ^ (m + n) → f p ≡ g (p / 2 ^ m)) → store (m + n) k f t ≡ store n (m + k) g t
store_skip zero n k f g t few s sum h =
    let a : zero + n ≡ n = omega arith in
    let b : zero + k ≡ k = omega arith in
    rw (a, b) (store_ext n k f g t (λ p l. h p (rw a l) ∙ ap g (div-one p)))
store_skip (suc m) n k f g t few s sum h =
    let a : suc m + n ≡ suc (m + n) = omega arith in
    let b : suc m + k ≡ m + suc k = omega arith in
    let two : 2 ^ (suc m + n) ≡ 2 * 2 ^ (m + n) = ap (λ (i : ℕ). 2 ^ i) a ∙ pow-succ' 2 (m + n) in
    let halve : (p : ℕ) → p / 2 ^ suc m ≡ p / 2 / 2 ^ m = λ p. ap (λ (d : ℕ). p / d) (pow-succ' 2 m) ∙ sym (div-div-eq-div-mul p 2 (2 ^ m)) in
    let even : (q : ℕ) → q < 2 ^ (m + n) → f (2 * q) ≡ g (q / 2 ^ m) =
    λ q l. let half : 2 * q / 2 ≡ q = omega arith in h (2 * q) (omega arith) ∙ ap g (halve (2 * q) ∙ ap (λ (i : ℕ). i / 2 ^ m) half) in
    let odd : (q : ℕ) → q < 2 ^ (m + n) → f (2 * q + 1) ≡ g (q / 2 ^ m) =
    λ q l. let half : (2 * q + 1) / 2 ≡ q = omega arith in h (2 * q + 1) (omega arith) ∙ ap g (halve (2 * q + 1) ∙ ap (λ (i : ℕ). i / 2 ^ m) half) in
    rw (a, b)
    (store_ignores (m + n) k f t few s (omega arith) (λ q l. even q l ∙ sym (odd q l)) ∙ store_skip m n (suc k) (λ q. f (2 * q)) g t few s (omega arith) even)
