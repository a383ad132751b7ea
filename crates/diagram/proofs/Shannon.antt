-- How the storing of a function goes down the letters: by its two halves at the least letter on which it depends.
use mathlib.Core.Path.{◌≡◌, refl, sym, ◌∙◌, ap}
use mathlib.Core.Logic.{⊎_elim}
use mathlib.Core.List.{List, [], ◌∷◌, map}
use mathlib.Core.Bool.{Bool, true, false, ◌&&◌, cond}
use Prim.Native.Nat.{ℕ, zero, suc, ◌+◌, ◌-◌, ◌*◌, ◌/◌, ◌%◌, ◌^◌, ◌<◌, ◌≤◌}
use native.Mathlib.Nat.{pow-suc, pow-succ', mul-div_cancel, div-div-eq-div-mul, div-one}
use native.Mathlib.Omega.{arith}
use lib.ListN.{length, get_or}
use lib.Dec.{leb, eqb}
use lib.Pow.{pow_pos}
use borrow.Author.Tests.{eqb-true, eqb-false, leb-true, le-leb}
use Rattle.lists.proofs.Cases.{bool_cases, and_left, and_right, and_both, bool_ext}
use Rattle.lists.proofs.Map.{map_same, map_at}
use Rattle.diagram.specs.declared.Operation.{Operation}
use Rattle.diagram.specs.Pattern.{most_letters, patterns, letter_at, with_letter}
use Rattle.diagram.specs.Table.{Entry, Table, terminal_letter, terminal, entry_at, part_of, number_from, number_at}
use Rattle.diagram.specs.Store.{Stored, stored, add, join, both, store}
use Rattle.diagram.specs.Operation.{apply, applied, chosen, letter_fixed, two_valued}
use Rattle.diagram.proofs.Sound.{Branch, Sound}
use Rattle.diagram.specs.Extends.{Extends}
use Rattle.diagram.proofs.Number.{part_low, part_high, number_from_lem, number_letter, number_terminal, number_at_extends, part_within, part_larger}
use Rattle.diagram.proofs.Store.{IsStored, store_stored, store_ext, store_step, store_skip, store_number, store_present}
use Rattle.diagram.proofs.Pattern.{with_suc, with_other}
use Rattle.diagram.proofs.Values.{number_with, number_part, values_branch}
use Rattle.diagram.proofs.Calls.{two_valued_each, each_two_valued}
use Rattle.diagram.specs.Counting.{count_from}
use Rattle.diagram.proofs.Count.{count_skip, count_step}

-- the letters below k do not matter to a function
abbrev pub Ignores : ℕ → (ℕ → ℕ) → Type 0
Ignores k f = (p q : ℕ) → p / 2 ^ k ≡ q / 2 ^ k → f p ≡ f q

-- the function that is one where a letter is 0, and the other where it is 1
abbrev pub split : ℕ → (ℕ → ℕ) → (ℕ → ℕ) → ℕ → ℕ
split m low high p = cond (eqb (letter_at m p) 1) (high p) (low p)

-- a pattern without its letters below k, and back
pattern_back : (k p : ℕ) → p * 2 ^ k / 2 ^ k ≡ p
pattern_back k p = mul-div_cancel p (pow_pos k)

-- patterns that agree from letter k on agree from the next letter on
next_letter : (k p q : ℕ) → p / 2 ^ k ≡ q / 2 ^ k → p / 2 ^ suc k ≡ q / 2 ^ suc k
next_letter k p q e =
    let halve : (r : ℕ) → r / 2 ^ suc k ≡ r / 2 ^ k / 2 = λ r. ap (λ (d : ℕ). r / d) (pow-suc 2 k) ∙ sym (div-div-eq-div-mul r (2 ^ k) 2) in
    halve p ∙ ap (λ (r : ℕ). r / 2) e ∙ sym (halve q)

-- two halves make a function that ignores what they ignore, but for their letter
pub split_ignores : (m : ℕ) (low high : ℕ → ℕ) → Ignores (suc m) low → Ignores (suc m) high → Ignores m (split m low high)
split_ignores m low high il ih p q e =
    let next : p / 2 ^ suc m ≡ q / 2 ^ suc m = next_letter m p q e in
    rw (e, il p q next, ih p q next)

-- a function that ignores the letters below k is stored from letter k on
pub store_from : {letters : ℕ} (k n : ℕ) (f : ℕ → ℕ) (t : Table) → letters ≤ most_letters → Sound letters t → k + n ≡ letters → Ignores k f
    → store letters 0 f t ≡ store n k (λ q. f (q * 2 ^ k)) t
store_from {letters} k n f t few s sum ig =
    let b : k + 0 ≡ k = omega arith in
    rw (← sum)
    (store_skip k n 0 f (λ q. f (q * 2 ^ k)) t few s (omega arith) (λ p h. ig p (p / 2 ^ k * 2 ^ k) (sym (pattern_back k (p / 2 ^ k))))
    ∙ ap (λ (j : ℕ). store n j (λ q. f (q * 2 ^ k)) t) b)

-- the half for 0
split_low : (m q : ℕ) (low high : ℕ → ℕ) → split m low high (2 * q * 2 ^ m) ≡ low (q * 2 ^ suc m)
split_low m q low high =
    let bit : letter_at m (2 * q * 2 ^ m) ≡ 0 = ap (λ (r : ℕ). r % 2) (pattern_back m (2 * q)) ∙ omega arith in
    let same : 2 * q * 2 ^ m ≡ q * 2 ^ suc m = rw (pow-succ' 2 m) (omega arith) in
    rw bit (ap low same)

-- the half for 1
split_high : (m q : ℕ) (low high : ℕ → ℕ) → Ignores (suc m) high → split m low high ((2 * q + 1) * 2 ^ m) ≡ high (q * 2 ^ suc m)
split_high m q low high ih =
    let bit : letter_at m ((2 * q + 1) * 2 ^ m) ≡ 1 = ap (λ (r : ℕ). r % 2) (pattern_back m (2 * q + 1)) ∙ omega arith in
    let half : (2 * q + 1) * 2 ^ m / 2 ^ suc m ≡ q =
    ap (λ (d : ℕ). (2 * q + 1) * 2 ^ m / d) (pow-suc 2 m) ∙ sym (div-div-eq-div-mul ((2 * q + 1) * 2 ^ m) (2 ^ m) 2) ∙ ap (λ (r : ℕ). r / 2) (pattern_back m (2 * q + 1)) ∙ omega arith in
    rw bit (ih ((2 * q + 1) * 2 ^ m) (q * 2 ^ suc m) (half ∙ sym (pattern_back (suc m) q)))

-- a function that ignores the letters below m is stored by its halves at letter m
pub store_halves : {letters : ℕ} (m : ℕ) (f low high : ℕ → ℕ) (t : Table) → letters ≤ most_letters → Sound letters t → m < letters
    → Ignores (suc m) low → Ignores (suc m) high → ((p : ℕ) → p < patterns letters → f p ≡ split m low high p)
    → store letters 0 f t ≡ both m (store letters 0 low t) (λ u. store letters 0 high u)
unfolding both
store_halves {letters} m f low high t few s small il ih h =
    let n : ℕ = letters - suc m in
    let g : ℕ → ℕ = λ q. split m low high (q * 2 ^ m) in
    let g0 : ℕ → ℕ = λ q. low (q * 2 ^ suc m) in
    let g1 : ℕ → ℕ = λ q. high (q * 2 ^ suc m) in
    let u : Table = (store letters 0 low t).table in
    let su : Sound letters u = (store_stored letters 0 low t few s (omega arith)).sound in
    let a : store letters 0 low t ≡ store n (suc m) g0 t = store_from (suc m) n low t few s (omega arith) il in
    let b : store letters 0 high u ≡ store n (suc m) g1 u = store_from (suc m) n high u few su (omega arith) ih in
    store_ext letters 0 f (split m low high) t h
    ∙ store_from m (suc n) (split m low high) t few s (omega arith) (split_ignores m low high il ih)
    ∙ store_step n m g g0 g1 t (λ q _. split_low m q low high) (λ q _. split_high m q low high ih)
    ∙ rw (← a) (ap (join m (store letters 0 low t)) (sym b))

-- a bit that is not 1
zero_or_one : (b : ℕ) → b ≤ 1 → (b ≡ 1 → ⊥) → b ≡ 0
zero_or_one zero h n = refl
zero_or_one (suc zero) h n = absurd (n refl)
zero_or_one (suc (suc b)) h n = absurd (omega arith)

module _ {letters : ℕ} (t : Table) (few : letters ≤ most_letters) (s : Sound letters t) where
  -- an entry ignores the letters before its own
  pub number_past : (k e : ℕ) → k ≤ letters → k ≤ (entry_at t e).letter → Ignores k (number_at letters t e)
  number_past k e le from p q same =
      let n : ℕ = letters - k in
      number_from_lem letters n k t e p (omega arith) from ∙ ap (number_from n k t e) same ∙ sym (number_from_lem letters n k t e q (omega arith) from)

  -- an entry is made of its parts at a letter that is not behind it
  pub number_split : (m e p : ℕ) → m < letters → e < length t → m ≤ (entry_at t e).letter
      → number_at letters t e p ≡ split m (number_at letters t (part_of t m 0 e)) (number_at letters t (part_of t m 1 e)) p
  number_split m e p small h from =
      let part : number_at letters t e p ≡ number_at letters t (part_of t m (letter_at m p) e) p = number_letter t m e p few s h small from in
      let at : (bit : ℕ) → letter_at m p ≡ bit → number_at letters t e p ≡ number_at letters t (part_of t m bit e) p =
      λ bit q. part ∙ ap (λ (b : ℕ). number_at letters t (part_of t m b e) p) q in
      ⊎_elim
      (λ (x : eqb (letter_at m p) 1 ≡ true). rw x (at 1 (eqb-true (letter_at m p) 1 x)))
      (λ (x : eqb (letter_at m p) 1 ≡ false). let no : letter_at m p ≡ 1 → ⊥ = eqb-false (letter_at m p) 1 x in rw x (at 0 (zero_or_one (letter_at m p) (omega arith) no)))
      (bool_cases (eqb (letter_at m p) 1))

-- entries of a table that begin at letter k or later
pub data Roots (t : Table) (k : ℕ) : List ℕ → Type 0 where
  none : Roots t k []
  root : {e : ℕ} {es : List ℕ} → e < length t → k ≤ (entry_at t e).letter → Roots t k es → Roots t k (e ∷ es)

-- from what holds at each place
pub roots_of : (t : Table) (k : ℕ) (es : List ℕ) → ((j : ℕ) → j < length es → (get_or es j 0 < length t) × (k ≤ (entry_at t (get_or es j 0)).letter)) → Roots t k es
roots_of t k [] h = none
roots_of t k (e ∷ es) h = let here = h 0 (omega arith) in root here.0 here.1 (roots_of t k es (λ j g. h (suc j) (omega arith)))

-- their numbers at a pattern
abbrev pub numbers : ℕ → Table → List ℕ → ℕ → List ℕ
numbers letters t es p = map (λ (e : ℕ). number_at letters t e p) es

-- each at its place
pub numbers_at : (letters : ℕ) (t : Table) (es : List ℕ) (p j : ℕ) → j < length es → get_or (numbers letters t es p) j 0 ≡ number_at letters t (get_or es j 0) p
numbers_at letters t es p j h = map_at (λ (e : ℕ). number_at letters t e p) es 0 0 j h

-- the same in an extension
pub numbers_extend : {letters : ℕ} {t u : Table} (es : List ℕ) (p : ℕ) → letters ≤ most_letters → Sound letters t → Extends t u
    → ((j : ℕ) → j < length es → get_or es j 0 < length t) → numbers letters u es p ≡ numbers letters t es p
numbers_extend {letters} {t} {u} es p few s x within =
    map_same (λ (e : ℕ). number_at letters u e p) (λ (e : ℕ). number_at letters t e p) 0 es (λ j h. number_at_extends (get_or es j 0) p few s x (within j h))

-- their parts at a letter
abbrev pub parts : Table → ℕ → ℕ → List ℕ → List ℕ
parts t k bit es = map (part_of t k bit) es

-- a later letter set, seen from a letter before it
with_past : (m k bit p : ℕ) → m ≤ k → with_letter k bit p / 2 ^ m ≡ with_letter (k - m) bit (p / 2 ^ m)
with_past zero k bit p h =
    let e : k - zero ≡ k = omega arith in
    rw e (div-one (with_letter k bit p) ∙ ap (with_letter k bit) (sym (div-one p)))
with_past (suc m) zero bit p h = absurd (omega arith)
with_past (suc m) (suc k) bit p h =
    let e : suc k - suc m ≡ k - m = omega arith in
    let half : with_letter (suc k) bit p / 2 ≡ with_letter k bit (p / 2) = rw with_suc (omega arith) in
    let halve : (q : ℕ) → q / 2 ^ suc m ≡ q / 2 / 2 ^ m = λ q. ap (λ (d : ℕ). q / d) (pow-succ' 2 m) ∙ sym (div-div-eq-div-mul q 2 (2 ^ m)) in
    rw e
    (halve (with_letter (suc k) bit p)
    ∙ ap (λ (q : ℕ). q / 2 ^ m) half
    ∙ with_past m k bit (p / 2) (omega arith)
    ∙ ap (with_letter (k - m) bit) (sym (halve p)))

module _ {letters : ℕ} (t : Table) (few : letters ≤ most_letters) (s : Sound letters t) where
  -- the parts begin past the letter
  pub roots_parts : (m bit : ℕ) (es : List ℕ) → m < letters → Roots t m es → Roots t (suc m) (parts t m bit es)
  roots_parts m bit [] small none = none
  roots_parts m bit (e ∷ es) small (root h from rest) = root (part_within t m e bit s (omega arith) h) (part_larger t m e bit s (omega arith) h from) (roots_parts m bit es small rest)

  -- roots ignore the letters before their own
  pub roots_past : (k : ℕ) (es : List ℕ) → k ≤ letters → Roots t k es → (p q : ℕ) → p / 2 ^ k ≡ q / 2 ^ k → numbers letters t es p ≡ numbers letters t es q
  roots_past k [] le none p q same = refl
  roots_past k (e ∷ es) le (root h from rest) p q same = rw (number_past t few s k e le from p q same, roots_past k es le rest p q same)

  -- roots are made of their parts
  pub roots_split : (m : ℕ) (es : List ℕ) (p : ℕ) → m < letters → Roots t m es
      → numbers letters t es p ≡ cond (eqb (letter_at m p) 1) (numbers letters t (parts t m 1 es) p) (numbers letters t (parts t m 0 es) p)
  roots_split m [] p small none = ⊎_elim (λ (x : eqb (letter_at m p) 1 ≡ true). rw x) (λ (x : eqb (letter_at m p) 1 ≡ false). rw x) (bool_cases (eqb (letter_at m p) 1))
  roots_split m (e ∷ es) p small (root h from rest) =
      let first = number_split t few s m e p small h from in
      let others = roots_split m es p small rest in
      ⊎_elim
      (λ (x : eqb (letter_at m p) 1 ≡ true). rw x (ap (λ (v : ℕ). v ∷ numbers letters t es p) (rw x at first) ∙ ap {B = List ℕ} (λ r. number_at letters t (part_of t m 1 e) p ∷ r) (rw x at others)))
      (λ (x : eqb (letter_at m p) 1 ≡ false). rw x (ap (λ (v : ℕ). v ∷ numbers letters t es p) (rw x at first) ∙ ap {B = List ℕ} (λ r. number_at letters t (part_of t m 0 e) p ∷ r) (rw x at others)))
      (bool_cases (eqb (letter_at m p) 1))

  -- a function of the numbers of some roots is stored by their parts at a letter that is not behind them
  pub store_roots : (m : ℕ) (F : List ℕ → ℕ) (es : List ℕ) → m < letters → Roots t m es
      → store letters 0 (λ p. F (numbers letters t es p)) t
      ≡ both m (store letters 0 (λ p. F (numbers letters t (parts t m 0 es) p)) t) (λ u. store letters 0 (λ p. F (numbers letters t (parts t m 1 es) p)) u)
  store_roots m F es small r =
      let low : ℕ → ℕ = λ p. F (numbers letters t (parts t m 0 es) p) in
      let high : ℕ → ℕ = λ p. F (numbers letters t (parts t m 1 es) p) in
      store_halves m (λ p. F (numbers letters t es p)) low high t few s small
      (λ p q e. ap F (roots_past (suc m) (parts t m 0 es) small (roots_parts m 0 es small r) p q e))
      (λ p q e. ap F (roots_past (suc m) (parts t m 1 es) small (roots_parts m 1 es small r) p q e))
      (λ p l.
      let whole = roots_split m es p small r in
      ⊎_elim
      (λ (x : eqb (letter_at m p) 1 ≡ true). rw x (ap F (rw x at whole)))
      (λ (x : eqb (letter_at m p) 1 ≡ false). rw x (ap F (rw x at whole)))
      (bool_cases (eqb (letter_at m p) 1)))

  -- smaller and sum of two terminals
  pub apply_terminals : (o : Operation) (a b : ℕ) → (entry_at t a).letter ≡ terminal_letter → (entry_at t b).letter ≡ terminal_letter
      → store letters 0 (applied letters t o a b) t ≡ add (terminal (apply o (entry_at t a).low (entry_at t b).low)) t
  apply_terminals o a b la lb =
      store_number letters 0 (apply o (entry_at t a).low (entry_at t b).low) (applied letters t o a b) t (λ p h.
      ap (λ (x : ℕ). apply o x (number_at letters t b p)) (number_terminal letters 0 t a p (omega arith) la)
      ∙ ap (apply o (entry_at t a).low) (number_terminal letters 0 t b p (omega arith) lb))

  -- of two others, by their parts
  pub apply_parts : (o : Operation) (m a b : ℕ) → m < letters → a < length t → b < length t → m ≤ (entry_at t a).letter → m ≤ (entry_at t b).letter
      → store letters 0 (applied letters t o a b) t
      ≡ both m (store letters 0 (applied letters t o (part_of t m 0 a) (part_of t m 0 b)) t) (λ u. store letters 0 (applied letters t o (part_of t m 1 a) (part_of t m 1 b)) u)
  apply_parts o m a b small ha hb ma mb =
      store_roots m (λ (vs : List ℕ). apply o (get_or vs 0 0) (get_or vs 1 0)) (a ∷ b ∷ []) small (root ha ma (root hb mb none))

  -- the same function in an extension
  pub apply_extends : (o : Operation) {u : Table} (a b : ℕ) (w : Table) → Extends t u → a < length t → b < length t
      → store letters 0 (applied letters u o a b) w ≡ store letters 0 (applied letters t o a b) w
  apply_extends o {u} a b w x ha hb = store_ext letters 0 (applied letters u o a b) (applied letters t o a b) w (λ p h. rw (number_at_extends a p few s x ha, number_at_extends b p few s x hb))

  -- choose by a terminal is one of the two functions
  pub choose_terminal : (selector a b : ℕ) → (entry_at t selector).letter ≡ terminal_letter → a < length t → b < length t
      → store letters 0 (chosen letters t selector a b) t ≡ stored t (cond (eqb (entry_at t selector).low 1) a b)
  choose_terminal selector a b ls ha hb =
      let number : (p : ℕ) → number_at letters t selector p ≡ (entry_at t selector).low = λ p. number_terminal letters 0 t selector p (omega arith) ls in
      ⊎_elim
      (λ (x : eqb (entry_at t selector).low 1 ≡ true).
      rw x (store_present letters 0 (chosen letters t selector a b) t a few s (omega arith) ha (omega arith) (λ p h. rw (number p, x))))
      (λ (x : eqb (entry_at t selector).low 1 ≡ false).
      rw x (store_present letters 0 (chosen letters t selector a b) t b few s (omega arith) hb (omega arith) (λ p h. rw (number p, x))))
      (bool_cases (eqb (entry_at t selector).low 1))

  -- by another selector, by the parts of all three
  pub choose_parts : (m selector a b : ℕ) → m < letters → selector < length t → a < length t → b < length t
      → m ≤ (entry_at t selector).letter → m ≤ (entry_at t a).letter → m ≤ (entry_at t b).letter
      → store letters 0 (chosen letters t selector a b) t
      ≡ both m (store letters 0 (chosen letters t (part_of t m 0 selector) (part_of t m 0 a) (part_of t m 0 b)) t)
      (λ u. store letters 0 (chosen letters t (part_of t m 1 selector) (part_of t m 1 a) (part_of t m 1 b)) u)
  choose_parts m selector a b small hs ha hb ms ma mb =
      store_roots m (λ (vs : List ℕ). cond (eqb (get_or vs 0 0) 1) (get_or vs 1 0) (get_or vs 2 0)) (selector ∷ a ∷ b ∷ []) small (root hs ms (root ha ma (root hb mb none)))

  -- the same function in an extension
  pub choose_extends : {u : Table} (selector a b : ℕ) (w : Table) → Extends t u → selector < length t → a < length t → b < length t
      → store letters 0 (chosen letters u selector a b) w ≡ store letters 0 (chosen letters t selector a b) w
  choose_extends {u} selector a b w x hs ha hb =
      store_ext letters 0 (chosen letters u selector a b) (chosen letters t selector a b) w
      (λ p h. rw (number_at_extends selector p few s x hs, number_at_extends a p few s x ha, number_at_extends b p few s x hb))

  -- a letter fixed in a function that does not depend on it
  pub fix_later : (e k bit : ℕ) → e < length t → k < letters → bit ≤ 1 → k < (entry_at t e).letter → store letters 0 (letter_fixed letters t e k bit) t ≡ stored t e
  fix_later e k bit h small one later =
      store_present letters 0 (letter_fixed letters t e k bit) t e few s (omega arith) h (omega arith) (λ p l. sym (number_with t k bit e p small one later))

  -- a function's own letter
  pub fix_own : (e k bit : ℕ) → e < length t → k < letters → bit ≤ 1 → (entry_at t e).letter ≡ k → store letters 0 (letter_fixed letters t e k bit) t ≡ stored t (part_of t k bit e)
  fix_own e k bit h small one own =
      store_present letters 0 (letter_fixed letters t e k bit) t (part_of t k bit e) few s (omega arith) (part_within t k e bit s (omega arith) h) (omega arith) (λ p l. number_part t k bit e p few s h small one (omega arith))

  -- a later letter, by the parts
  pub fix_parts : (m e k bit : ℕ) → e < length t → k < letters → bit ≤ 1 → m < k → m ≤ (entry_at t e).letter
      → store letters 0 (letter_fixed letters t e k bit) t
      ≡ both m (store letters 0 (letter_fixed letters t (part_of t m 0 e) k bit) t) (λ u. store letters 0 (letter_fixed letters t (part_of t m 1 e) k bit) u)
  fix_parts m e k bit h small one before from =
      let past : (part p q : ℕ) → m < (entry_at t part).letter → p / 2 ^ suc m ≡ q / 2 ^ suc m → letter_fixed letters t part k bit p ≡ letter_fixed letters t part k bit q =
      λ part p q l same. number_past t few s (suc m) part (omega arith) l (with_letter k bit p) (with_letter k bit q) (with_past (suc m) k bit p before ∙ ap (with_letter (k - suc m) bit) same ∙ sym (with_past (suc m) k bit q before)) in
      store_halves m (letter_fixed letters t e k bit) (letter_fixed letters t (part_of t m 0 e) k bit) (letter_fixed letters t (part_of t m 1 e) k bit) t few s (omega arith)
      (λ p q. past (part_of t m 0 e) p q (part_larger t m e 0 s (omega arith) h from))
      (λ p q. past (part_of t m 1 e) p q (part_larger t m e 1 s (omega arith) h from))
      (λ p l. rw (← with_other m k bit p one (λ q. omega arith)) (number_split t few s m e (with_letter k bit p) (omega arith) h from))

  -- the same function in an extension
  pub fix_extends : {u : Table} (e k bit : ℕ) (w : Table) → Extends t u → e < length t
      → store letters 0 (letter_fixed letters u e k bit) w ≡ store letters 0 (letter_fixed letters t e k bit) w
  fix_extends {u} e k bit w x h = store_ext letters 0 (letter_fixed letters u e k bit) (letter_fixed letters t e k bit) w (λ p l. number_at_extends e (with_letter k bit p) few s x h)

  -- a terminal has two values where its number is at most 1
  pub two_valued_terminal : (e : ℕ) → (entry_at t e).letter ≡ terminal_letter → two_valued letters t e ≡ leb (entry_at t e).low 1
  two_valued_terminal e leaf =
      let number : (p : ℕ) → number_at letters t e p ≡ (entry_at t e).low = λ p. number_terminal letters 0 t e p (omega arith) leaf in
      bool_ext (two_valued letters t e) (leb (entry_at t e).low 1)
      (λ q. le-leb (entry_at t e).low 1 (rw (← number 0) (two_valued_each letters t e q 0 (pow_pos letters))))
      (λ q. each_two_valued letters t e (λ p h. rw (number p) (leb-true (entry_at t e).low 1 q)))

  -- a branch where both of its parts have
  pub two_valued_branch : (e : ℕ) → e < length t → ((entry_at t e).letter ≡ terminal_letter → ⊥)
      → two_valued letters t e ≡ (two_valued letters t (entry_at t e).low && two_valued letters t (entry_at t e).high)
  two_valued_branch e h node =
      let a : ℕ = (entry_at t e).low in
      let b : ℕ = (entry_at t e).high in
      let values = values_branch t e (λ (v : ℕ). v ≤ 1) few s h node in
      bool_ext (two_valued letters t e) (two_valued letters t a && two_valued letters t b)
      (λ q.
      let each = values.0 (two_valued_each letters t e q) in
      and_both (two_valued letters t a) (two_valued letters t b) (each_two_valued letters t a each.0) (each_two_valued letters t b each.1))
      (λ q.
      each_two_valued letters t e (values.1 (
        two_valued_each letters t a (and_left (two_valued letters t a) (two_valued letters t b) q),
        two_valued_each letters t b (and_right (two_valued letters t a) (two_valued letters t b) q),
      )))

  -- the count over the letters from one on that is not behind a branch, by its parts
  pub count_branch : (from e : ℕ) → e < length t → from ≤ (entry_at t e).letter → ((entry_at t e).letter ≡ terminal_letter → ⊥)
      → count_from (letters - from) from t e
      ≡ 2 ^ ((entry_at t e).letter - from)
      * (count_from (letters - suc (entry_at t e).letter) (suc (entry_at t e).letter) t (entry_at t e).low
      + count_from (letters - suc (entry_at t e).letter) (suc (entry_at t e).letter) t (entry_at t e).high)
  count_branch from e h le node =
      let k : ℕ = (entry_at t e).letter in
      let b : Branch letters t e (entry_at t e) = (s.legal e h).node node in
      let m : ℕ = k - from in
      let n : ℕ = letters - suc k in
      let sum : letters - from ≡ m + suc n = omega arith in
      let at : m + from ≡ k = omega arith in
      ap (λ (i : ℕ). count_from i from t e) sum
      ∙ count_skip m (suc n) from t e (omega arith)
      ∙ ap (λ (i : ℕ). 2 ^ m * count_from (suc n) i t e) at
      ∙ ap (λ (c : ℕ). 2 ^ m * c) (count_step n k t e ∙ rw (part_low t k e refl, part_high t k e refl))
