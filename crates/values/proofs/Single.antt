-- Single functions: an entry's own, a constant, never, a letter and its complement.
use mathlib.Core.Path.{◌≡◌, refl, sym, ◌∙◌, ap}
use mathlib.Core.List.{List}
use mathlib.Core.Bool.{cond}
use Prim.Native.Nat.{ℕ, zero, suc, ◌+◌, ◌-◌, ◌*◌, ◌/◌, ◌%◌, ◌<◌, ◌≤◌}
use native.Mathlib.Nat.{add-zero}
use native.Mathlib.Omega.{arith}
use lib.ListN.{length}
use lib.Dec.{eqb}
use Rattle.format.specs.Source.{letter_of}
use Rattle.diagram.specs.Pattern.{most_letters, patterns, letter_at}
use Rattle.diagram.specs.Table.{Table, never, number_at}
use Rattle.diagram.specs.Store.{Stored, stored, join, both, store}
use Rattle.diagram.specs.Held.{held}
use Rattle.diagram.proofs.Sound.{Sound}
use Rattle.diagram.proofs.Number.{number_zeroth, number_first, number_second}
use Rattle.diagram.proofs.Store.{store_present}
use Rattle.diagram.proofs.Shannon.{split, store_halves}
use Rattle.table.specs.declared.Stop.TheVariants.{Going}
use Rattle.table.specs.Holds.{Outcome}
use Rattle.table.proofs.Outcomes.{put, outcome_there}
use Rattle.functions.specs.Open.{Open}
use Rattle.functions.proofs.Carry.{legible_sound, legible_long}
use Rattle.rules.specs.Arrive.{source_at}
use Rattle.rules.specs.Run.{never_entry}
use Rattle.rules.proofs.Arrive.{source_letter}

module _ {k : ℕ} {t : Table} (few : k ≤ most_letters) (s : Sound k t) where
  -- a function that an entry has
  pub own_stored : (e : ℕ) (f : ℕ → ℕ) → e < length t → ((p : ℕ) → p < patterns k → number_at k t e p ≡ f p) → store k 0 f t ≡ stored t e
  own_stored e f h same = store_present k 0 f t e few s (add-zero k) h (omega arith) same

  -- entries 0 and 1 are their own numbers
  pub bit_number : (v p : ℕ) → v < 2 → number_at k t v p ≡ v
  bit_number zero p h = number_zeroth t p few s
  bit_number (suc zero) p h = number_first t p few s
  bit_number (suc (suc v)) p h = absurd (omega arith)

  -- a function that is 0, or 1, at every pattern
  pub bit_stored : (v : ℕ) (f : ℕ → ℕ) → v < 2 → ((p : ℕ) → p < patterns k → f p ≡ v) → store k 0 f t ≡ stored t v
  bit_stored v f h all = own_stored v f (omega (arith, s.three)) (λ p l. bit_number v p h ∙ sym (all p l))

  -- one that is never at every pattern
  pub never_single : (f : ℕ → ℕ) → ((p : ℕ) → p < patterns k → f p ≡ never) → store k 0 f t ≡ stored t never_entry
  never_single f all = own_stored never_entry f (omega (arith, s.three)) (λ p l. number_second t p few s ∙ sym (all p l))

  -- a letter, or its complement: the branch on the letter
  pub letter_stored : (byte : ℕ) → 2 ≤ byte → byte < 2 + 2 * k → store k 0 (source_at byte) t ≡ join (byte / 2 - 1) (stored t (byte % 2)) (stored t (1 - byte % 2))
  unfolding both
  letter_stored byte least most =
      let m : ℕ = byte / 2 - 1 in
      let odd : ℕ = byte % 2 in
      let letter : letter_of byte ≡ m = omega arith in
      let low : store k 0 (λ _. odd) t ≡ stored t odd = bit_stored odd (λ _. odd) (omega arith) (λ p l. refl) in
      let high : store k 0 (λ _. 1 - odd) t ≡ stored t (1 - odd) = bit_stored (1 - odd) (λ _. 1 - odd) (omega arith) (λ p l. refl) in
      store_halves m (source_at byte) (λ _. odd) (λ _. 1 - odd) t few s (omega arith) (λ p q e. refl) (λ p q e. refl) (λ p l. source_letter byte p least ∙ halves p m odd letter (omega arith))
      ∙ ap (λ (a : Stored). join m a (store k 0 (λ _. 1 - odd) a.table)) low
      ∙ ap (join m (stored t odd)) high
    where
      halves : (p m odd : ℕ) → letter_of byte ≡ m → odd ≤ 1 → cond (eqb odd 0) (letter_at (letter_of byte) p) (1 - letter_at (letter_of byte) p) ≡ split m (λ _. odd) (λ _. 1 - odd) p
      halves p m zero e h = rw e (bit (letter_at m p) (omega arith))
        where
          bit : (b : ℕ) → b ≤ 1 → b ≡ cond (eqb b 1) 1 0
          bit zero h = refl
          bit (suc zero) h = refl
          bit (suc (suc b)) h = absurd (omega arith)
      halves p m (suc zero) e h = rw e (bit (letter_at m p) (omega arith))
        where
          bit : (b : ℕ) → b ≤ 1 → 1 - b ≡ cond (eqb b 1) 0 1
          bit zero h = refl
          bit (suc zero) h = refl
          bit (suc (suc b)) h = absurd (omega arith)
      halves p m (suc (suc odd)) e h = absurd (omega arith)

-- the same of the table in open columns
module _ {k : ℕ} {l w h ix : List ℕ} {used : ℕ} (o : Open k l w h ix used) where
  abbrev t : Table
  t = held l w h used

  sound : Sound k t
  sound = legible_sound o.legible

  -- an entry's own function stays that entry
  pub own_outcome : (e : ℕ) (f : ℕ → ℕ) → e < used → ((p : ℕ) → p < patterns k → number_at k (held l w h used) e p ≡ f p)
      → Outcome (held l w h used) (store k 0 f (held l w h used)) l w h ix (put Going e used)
  own_outcome e f small same =
      let long : length t ≡ used = legible_long o.legible in
      rw (own_stored o.legible.few sound e f (omega arith) same) (outcome_there o.holds e)

  -- a constant
  pub bit_outcome : (v : ℕ) (f : ℕ → ℕ) → v < 2 → ((p : ℕ) → p < patterns k → f p ≡ v)
      → Outcome (held l w h used) (store k 0 f (held l w h used)) l w h ix (put Going v used)
  bit_outcome v f small all = rw (bit_stored o.legible.few sound v f small all) (outcome_there o.holds v)

  -- never is entry 2
  pub never_outcome : (f : ℕ → ℕ) → ((p : ℕ) → p < patterns k → f p ≡ never)
      → Outcome (held l w h used) (store k 0 f (held l w h used)) l w h ix (put Going never_entry used)
  never_outcome f all = rw (never_single o.legible.few sound f all) (outcome_there o.holds never_entry)
