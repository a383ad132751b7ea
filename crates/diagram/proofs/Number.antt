-- The parts of an entry and its number.
use mathlib.Core.Path.{◌≡◌, refl, sym, ◌∙◌, ap, subst}
use mathlib.Core.Logic.{⊎_elim}
use mathlib.Core.Bool.{true, false, cond}
use Prim.Native.Nat.{ℕ, zero, suc, ◌+◌, ◌-◌, ◌*◌, ◌/◌, ◌%◌, ◌^◌, ◌<◌, ◌≤◌}
use native.Mathlib.Nat.{div-one, div-div-eq-div-mul, pow-suc, pow-succ', zero-add}
use native.Mathlib.Omega.{arith}
use lib.ListN.{length}
use lib.Dec.{eqb}
use borrow.Author.Tests.{eq-eqb, ne_eqb}
use Rattle.lists.proofs.Cases.{bool_cases, lt_or_ge, eq_or_ne}
use Rattle.diagram.specs.Pattern.{most_letters, letter_at}
use Rattle.diagram.specs.Table.{Entry, Table, never, terminal_letter, entry_at, part_of, number_from, number_at}
use Rattle.diagram.proofs.Sound.{Branch, Sound}
use Rattle.diagram.specs.Extends.{Extends}

module _ (t : Table) (k e : ℕ) where
  -- a branch on the letter has its low part for 0
  pub part_low : (entry_at t e).letter ≡ k → part_of t k 0 e ≡ (entry_at t e).low
  part_low h = rw (eq-eqb (entry_at t e).letter k h)

  -- the high one, for 1
  pub part_high : (entry_at t e).letter ≡ k → part_of t k 1 e ≡ (entry_at t e).high
  part_high h = rw (eq-eqb (entry_at t e).letter k h)

  -- either, by the bit
  pub part_of_lem : (bit : ℕ) → (entry_at t e).letter ≡ k → part_of t k bit e ≡ cond (eqb bit 1) (entry_at t e).high (entry_at t e).low
  part_of_lem bit h = rw (eq-eqb (entry_at t e).letter k h)

  -- any other entry is its own part
  pub part_self : (bit : ℕ) → ((entry_at t e).letter ≡ k → ⊥) → part_of t k bit e ≡ e
  part_self bit h = rw (ne_eqb (entry_at t e).letter k h)

  -- so is one with a larger letter
  pub part_later : (bit : ℕ) → k < (entry_at t e).letter → part_of t k bit e ≡ e
  part_later bit h = part_self bit (λ q. omega arith)

  -- a part is the low one, the high one, or the entry itself
  pub part_such : {letters : ℕ} (bit : ℕ) (P : ℕ → Type 0) → Sound letters t → k < terminal_letter → e < length t
      → (Branch letters t e (entry_at t e) → (entry_at t e).letter ≡ k → P (entry_at t e).low × P (entry_at t e).high)
      → (((entry_at t e).letter ≡ k → ⊥) → P e)
      → P (part_of t k bit e)
  part_such {letters} bit P s small h onBranch onSelf =
      ⊎_elim
      (λ (q : (entry_at t e).letter ≡ k).
      let both : P (entry_at t e).low × P (entry_at t e).high = onBranch ((s.legal e h).node (λ z. omega arith)) q in
      ⊎_elim
      (λ (b : eqb bit 1 ≡ true). rw (part_of_lem bit q, b) both.1)
      (λ (b : eqb bit 1 ≡ false). rw (part_of_lem bit q, b) both.0)
      (bool_cases (eqb bit 1)))
      (λ (n : (entry_at t e).letter ≡ k → ⊥). rw (part_self bit n) (onSelf n))
      (eq_or_ne (entry_at t e).letter k)

  -- a part is an entry of the table
  pub part_within : {letters : ℕ} (bit : ℕ) → Sound letters t → k < terminal_letter → e < length t → part_of t k bit e < length t
  part_within bit s small h = part_such bit (λ (i : ℕ). i < length t) s small h (λ b q. (omega arith, omega arith)) (λ n. h)

  -- a part has a larger letter
  pub part_larger : {letters : ℕ} (bit : ℕ) → Sound letters t → k < terminal_letter → e < length t → k ≤ (entry_at t e).letter → k < (entry_at t (part_of t k bit e)).letter
  part_larger bit s small h le = part_such bit (λ (i : ℕ). k < (entry_at t i).letter) s small h (λ b q. (omega arith, omega arith)) (λ n. omega arith)

-- a part is the same in an extension
pub part_extends : {t u : Table} (k bit e : ℕ) → Extends t u → e < length t → part_of u k bit e ≡ part_of t k bit e
part_extends {t} {u} k bit e x h = ap (λ (y : Entry). cond (eqb y.letter k) (cond (eqb bit 1) y.high y.low) e) (x.kept e h)

-- no letters left: the low number
pub number_end : (k : ℕ) (t : Table) (e p : ℕ) → number_from 0 k t e p ≡ (entry_at t e).low
unfolding number_from
number_end k t e p = refl

-- one letter: the part for it, and the rest of the pattern
pub number_step : (n k : ℕ) (t : Table) (e p : ℕ) → number_from (suc n) k t e p ≡ number_from n (suc k) t (part_of t k (p % 2) e) (p / 2)
unfolding number_from
number_step n k t e p = refl

-- the letter is 0: the low part
pub number_even : (n k : ℕ) (t : Table) (e q : ℕ) → number_from (suc n) k t e (2 * q) ≡ number_from n (suc k) t (part_of t k 0 e) q
number_even n k t e q =
    let r : 2 * q % 2 ≡ 0 = omega arith in
    let d : 2 * q / 2 ≡ q = omega arith in
    rw (number_step, r, d)

-- the letter is 1: the high part
pub number_odd : (n k : ℕ) (t : Table) (e q : ℕ) → number_from (suc n) k t e (2 * q + 1) ≡ number_from n (suc k) t (part_of t k 1 e) q
number_odd n k t e q =
    let r : (2 * q + 1) % 2 ≡ 1 = omega arith in
    let d : (2 * q + 1) / 2 ≡ q = omega arith in
    rw (number_step, r, d)

-- what holds at the even and at the odd patterns holds at all
pub halves : (n : ℕ) (P : ℕ → Type 0) → ((q : ℕ) → q < 2 ^ n → P (2 * q)) → ((q : ℕ) → q < 2 ^ n → P (2 * q + 1)) → (p : ℕ) → p < 2 ^ suc n → P p
halves n P even odd p h =
    let two : 2 ^ suc n ≡ 2 * 2 ^ n = pow-succ' 2 n in
    ⊎_elim
    (λ (r : p % 2 < 1).
    let e : p ≡ 2 * (p / 2) = omega arith in
    subst P (sym e) (even (p / 2) (omega arith)))
    (λ (r : 1 ≤ p % 2).
    let e : p ≡ 2 * (p / 2) + 1 = omega arith in
    subst P (sym e) (odd (p / 2) (omega arith)))
    (lt_or_ge (p % 2) 1)

-- the number of an entry is a function, where the numbers of its parts are its halves
pub number_halves : (n k : ℕ) (t : Table) (e : ℕ) (f : ℕ → ℕ)
    → ((q : ℕ) → q < 2 ^ n → number_from n (suc k) t (part_of t k 0 e) q ≡ f (2 * q))
    → ((q : ℕ) → q < 2 ^ n → number_from n (suc k) t (part_of t k 1 e) q ≡ f (2 * q + 1))
    → (p : ℕ) → p < 2 ^ suc n → number_from (suc n) k t e p ≡ f p
number_halves n k t e f even odd =
    halves n (λ (p : ℕ). number_from (suc n) k t e p ≡ f p) (λ q h. number_even n k t e q ∙ even q h) (λ q h. number_odd n k t e q ∙ odd q h)

-- the numbers of the low part are the even half
pub number_low : (n k : ℕ) (t : Table) (e : ℕ) (f : ℕ → ℕ) → ((p : ℕ) → p < 2 ^ suc n → number_from (suc n) k t e p ≡ f p)
    → (q : ℕ) → q < 2 ^ n → number_from n (suc k) t (part_of t k 0 e) q ≡ f (2 * q)
number_low n k t e f all q h =
    let two : 2 ^ suc n ≡ 2 * 2 ^ n = pow-succ' 2 n in
    sym (number_even n k t e q) ∙ all (2 * q) (omega arith)

-- the same for the high part
pub number_high : (n k : ℕ) (t : Table) (e : ℕ) (f : ℕ → ℕ) → ((p : ℕ) → p < 2 ^ suc n → number_from (suc n) k t e p ≡ f p)
    → (q : ℕ) → q < 2 ^ n → number_from n (suc k) t (part_of t k 1 e) q ≡ f (2 * q + 1)
number_high n k t e f all q h =
    let two : 2 ^ suc n ≡ 2 * 2 ^ n = pow-succ' 2 n in
    sym (number_odd n k t e q) ∙ all (2 * q + 1) (omega arith)

-- an entry with a larger letter ignores the letter
pub number_ignores : (n k : ℕ) (t : Table) (e p : ℕ) → k < (entry_at t e).letter → number_from (suc n) k t e p ≡ number_from n (suc k) t e (p / 2)
number_ignores n k t e p h = number_step n k t e p ∙ ap (λ (i : ℕ). number_from n (suc k) t i (p / 2)) (part_later t k e (p % 2) h)

-- a terminal's number is its low number
pub number_terminal : (n k : ℕ) (t : Table) (e p : ℕ) → n + k ≤ terminal_letter → (entry_at t e).letter ≡ terminal_letter → number_from n k t e p ≡ (entry_at t e).low
number_terminal zero k t e p le h = number_end k t e p
number_terminal (suc n) k t e p le h = number_ignores n k t e p (omega arith) ∙ number_terminal n (suc k) t e (p / 2) (omega arith) h

-- an entry keeps its number in an extension
pub number_extends : {letters : ℕ} (n k : ℕ) {t u : Table} (e p : ℕ) → Sound letters t → Extends t u → n + k ≤ terminal_letter → e < length t
    → number_from n k u e p ≡ number_from n k t e p
number_extends zero k {t} {u} e p s x le h = number_end k u e p ∙ ap (λ (y : Entry). y.low) (x.kept e h) ∙ sym (number_end k t e p)
number_extends (suc n) k {t} {u} e p s x le h =
    let i : ℕ = part_of t k (p % 2) e in
    number_step n k u e p
    ∙ ap (λ (j : ℕ). number_from n (suc k) u j (p / 2)) (part_extends k (p % 2) e x h)
    ∙ number_extends n (suc k) i (p / 2) s x (omega arith) (part_within t k e (p % 2) s (omega arith) h)
    ∙ sym (number_step n k t e p)

-- the same over all letters
pub number_at_extends : {letters : ℕ} {t u : Table} (e p : ℕ) → letters ≤ most_letters → Sound letters t → Extends t u → e < length t
    → number_at letters u e p ≡ number_at letters t e p
number_at_extends {letters} e p few s x h = number_extends letters 0 e p s x (omega arith) h

-- the letters before an entry's own do not count
pub number_skip : (m n k : ℕ) (t : Table) (e p : ℕ) → m + k ≤ (entry_at t e).letter → number_from (m + n) k t e p ≡ number_from n (m + k) t e (p / 2 ^ m)
number_skip zero n k t e p h = rw (zero-add n, zero-add k, div-one p)
number_skip (suc m) n k t e p h =
    let a : suc m + n ≡ suc (m + n) = omega arith in
    let b : suc m + k ≡ m + suc k = omega arith in
    let c : p / 2 / 2 ^ m ≡ p / 2 ^ suc m = div-div-eq-div-mul p 2 (2 ^ m) ∙ ap (λ (d : ℕ). p / d) (sym (pow-succ' 2 m)) in
    rw (a, b) (number_ignores (m + n) k t e p (omega arith) ∙ number_skip m n (suc k) t e (p / 2) (omega arith) ∙ ap (number_from n (m + suc k) t e) c)

-- the number over all letters, read from the letter where the entry begins
pub number_from_lem : (letters n k : ℕ) (t : Table) (e p : ℕ) → k + n ≡ letters → k ≤ (entry_at t e).letter → number_at letters t e p ≡ number_from n k t e (p / 2 ^ k)
number_from_lem letters n k t e p sum h =
    let b : k + 0 ≡ k = omega arith in
    rw (← sum) (number_skip k n 0 t e p (omega arith) ∙ ap (λ (j : ℕ). number_from n j t e (p / 2 ^ k)) b)

-- an entry takes the number of its part for a letter that is not behind it
pub number_letter : {letters : ℕ} (t : Table) (k e p : ℕ) → letters ≤ most_letters → Sound letters t → e < length t → k < letters → k ≤ (entry_at t e).letter
    → number_at letters t e p ≡ number_at letters t (part_of t k (letter_at k p) e) p
number_letter {letters} t k e p few s h small le =
    let n : ℕ = letters - suc k in
    let i : ℕ = part_of t k (letter_at k p) e in
    let larger : k < (entry_at t i).letter = part_larger t k e (letter_at k p) s (omega arith) h le in
    let halves : p / 2 ^ k / 2 ≡ p / 2 ^ suc k = div-div-eq-div-mul p (2 ^ k) 2 ∙ ap (λ (d : ℕ). p / d) (sym (pow-suc 2 k)) in
    number_from_lem letters (suc n) k t e p (omega arith) le
    ∙ number_step n k t e (p / 2 ^ k)
    ∙ ap (number_from n (suc k) t i) halves
    ∙ sym (number_from_lem letters n (suc k) t i p (omega arith) larger)

-- a branch takes the number of its part for its letter
pub number_branch : {letters : ℕ} (t : Table) (e p : ℕ) → letters ≤ most_letters → Sound letters t → e < length t → ((entry_at t e).letter ≡ terminal_letter → ⊥)
    → number_at letters t e p ≡ number_at letters t (cond (eqb (letter_at (entry_at t e).letter p) 1) (entry_at t e).high (entry_at t e).low) p
number_branch {letters} t e p few s h node =
    let k : ℕ = (entry_at t e).letter in
    let b : Branch letters t e (entry_at t e) = (s.legal e h).node node in
    number_letter t k e p few s h b.letter_in (omega arith) ∙ ap (λ (i : ℕ). number_at letters t i p) (part_of_lem t k e (letter_at k p) refl)

-- entry 0 is 0
pub number_zeroth : {letters : ℕ} (t : Table) (p : ℕ) → letters ≤ most_letters → Sound letters t → number_at letters t 0 p ≡ 0
number_zeroth {letters} t p few s = number_terminal letters 0 t 0 p (omega arith) (ap (λ (y : Entry). y.letter) s.zeroth) ∙ ap (λ (y : Entry). y.low) s.zeroth

-- entry 1 is 1
pub number_first : {letters : ℕ} (t : Table) (p : ℕ) → letters ≤ most_letters → Sound letters t → number_at letters t 1 p ≡ 1
number_first {letters} t p few s = number_terminal letters 0 t 1 p (omega arith) (ap (λ (y : Entry). y.letter) s.first) ∙ ap (λ (y : Entry). y.low) s.first

-- entry 2 is never
pub number_second : {letters : ℕ} (t : Table) (p : ℕ) → letters ≤ most_letters → Sound letters t → number_at letters t 2 p ≡ never
number_second {letters} t p few s = number_terminal letters 0 t 2 p (omega arith) (ap (λ (y : Entry). y.letter) s.second) ∙ ap (λ (y : Entry). y.low) s.second
