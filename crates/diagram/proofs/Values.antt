-- The numbers that an entry takes, by its parts.
use mathlib.Core.Path.{◌≡◌, refl, sym, ◌∙◌, ap, subst}
use mathlib.Core.Logic.{⊎_elim, ◌↔◌}
use mathlib.Core.Bool.{true, false}
use Prim.Native.Nat.{ℕ, suc, ◌-◌, ◌<◌, ◌≤◌}
use native.Mathlib.Omega.{arith}
use lib.ListN.{length}
use lib.Dec.{eqb}
use Rattle.lists.proofs.Cases.{bool_cases}
use Rattle.diagram.specs.Pattern.{most_letters, patterns, letter_at, with_letter}
use Rattle.diagram.specs.Table.{Table, terminal_letter, entry_at, part_of, number_from, number_at}
use Rattle.diagram.proofs.Sound.{Branch, Sound}
use Rattle.diagram.proofs.Number.{part_low, part_high, part_larger, number_from_lem, number_letter, number_branch}
use Rattle.diagram.proofs.Pattern.{with_same, with_beyond, with_lt}

-- an entry that begins past a letter ignores it
pub number_with : {letters : ℕ} (t : Table) (k bit e p : ℕ) → k < letters → bit ≤ 1 → k < (entry_at t e).letter → number_at letters t e (with_letter k bit p) ≡ number_at letters t e p
number_with {letters} t k bit e p small one h =
    let n : ℕ = letters - suc k in
    number_from_lem letters n (suc k) t e (with_letter k bit p) (omega arith) h
    ∙ ap (number_from n (suc k) t e) (with_beyond k bit p one)
    ∙ sym (number_from_lem letters n (suc k) t e p (omega arith) h)

-- the part of an entry is the entry with the letter set
pub number_part : {letters : ℕ} (t : Table) (k bit e p : ℕ) → letters ≤ most_letters → Sound letters t → e < length t → k < letters → bit ≤ 1 → k ≤ (entry_at t e).letter
    → number_at letters t (part_of t k bit e) p ≡ number_at letters t e (with_letter k bit p)
number_part {letters} t k bit e p few s h small one le =
    sym (number_with t k bit (part_of t k bit e) p small one (part_larger t k e bit s (omega arith) h le))
    ∙ ap (λ (b : ℕ). number_at letters t (part_of t k b e) (with_letter k bit p)) (sym (with_same k bit p one))
    ∙ sym (number_letter t k e (with_letter k bit p) few s h small le)

module _ {letters : ℕ} (t : Table) (e : ℕ) (P : ℕ → Type 0) (few : letters ≤ most_letters) (s : Sound letters t) (h : e < length t) where
  -- a branch takes only numbers of a kind where both of its parts do
  pub values_branch : ((entry_at t e).letter ≡ terminal_letter → ⊥)
      → ((p : ℕ) → p < patterns letters → P (number_at letters t e p))
      ↔ (((p : ℕ) → p < patterns letters → P (number_at letters t (entry_at t e).low p)) × ((p : ℕ) → p < patterns letters → P (number_at letters t (entry_at t e).high p)))
  values_branch node =
      let k : ℕ = (entry_at t e).letter in
      let b : Branch letters t e (entry_at t e) = (s.legal e h).node node in
      let low : (p : ℕ) → number_at letters t (entry_at t e).low p ≡ number_at letters t e (with_letter k 0 p) =
      λ p. ap (λ (i : ℕ). number_at letters t i p) (sym (part_low t k e refl)) ∙ number_part t k 0 e p few s h b.letter_in (omega arith) (omega arith) in
      let high : (p : ℕ) → number_at letters t (entry_at t e).high p ≡ number_at letters t e (with_letter k 1 p) =
      λ p. ap (λ (i : ℕ). number_at letters t i p) (sym (part_high t k e refl)) ∙ number_part t k 1 e p few s h b.letter_in (omega arith) (omega arith) in (
        λ all. (
          λ p l. subst P (sym (low p)) (all (with_letter k 0 p) (with_lt letters k 0 p l b.letter_in (omega arith))),
          λ p l. subst P (sym (high p)) (all (with_letter k 1 p) (with_lt letters k 1 p l b.letter_in (omega arith))),
        ),
        λ parts p l.
            ⊎_elim
            (λ (x : eqb (letter_at k p) 1 ≡ true). rw (number_branch t e p few s h node, x) (parts.1 p l))
            (λ (x : eqb (letter_at k p) 1 ≡ false). rw (number_branch t e p few s h node, x) (parts.0 p l))
            (bool_cases (eqb (letter_at k p) 1)),
      )
